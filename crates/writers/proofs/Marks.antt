-- Pending adds that are marked.
use Rattle.std.proofs.Common.{◌≡◌, ℕ, suc, ◌+◌, ◌-◌, ◌<◌, ◌≤◌, true, false, eqb, ◌⊎◌, List, [], ◌∷◌, length, get_or, set, refl, ap, inl, inr, ⊎_elim, not-suc-le-zero, arith}
use Rattle.std.proofs.lemmas.Bool.{cases_eq, eq-eqb, ne_eqb}
use Rattle.layout.specs.declared.fragments.Layout.{Layout}
use Rattle.messages.specs.declared.entries.PendingAdd.{PendingAdd}
use Rattle.protocol.specs.Writers.{marked_add, marked_adds}

-- pending adds, the first of which is entry k, when bookie b acknowledges entry e
module _ (y : Layout) (e b : ℕ) where
  -- that is none of them
  pub marked_none : (k : ℕ) (ps : List PendingAdd) → (e < k) ⊎ (k + length ps ≤ e) → marked_adds y e b k ps ≡ ps
  marked_none k [] h = refl
  marked_none k (p ∷ ps) h =
      let ne : eqb e k ≡ false = ne_eqb e k (λ q. ⊎_elim (λ (l : e < k). omega arith) (λ (l : k + suc (length ps) ≤ e). omega arith) h) in
      let rest : (e < suc k) ⊎ (suc k + length ps ≤ e) = ⊎_elim (λ (l : e < k). inl (omega arith)) (λ (l : k + suc (length ps) ≤ e). inr (omega arith)) h in
      rw ne (ap (λ qs. p ∷ qs) (marked_none (suc k) ps rest))

  -- or one of them
  pub marked_at : (k : ℕ) (ps : List PendingAdd) (d : PendingAdd) → k ≤ e → e - k < length ps
      → marked_adds y e b k ps ≡ set ps (e - k) (marked_add y e b (get_or ps (e - k) d))
  marked_at k [] d le lt = absurd (not-suc-le-zero lt)
  marked_at k (p ∷ ps) d le lt =
      ⊎_elim
      (λ (q : e ≡ k). let t : eqb e k ≡ true = eq-eqb e k q in let z : e - k ≡ 0 = omega arith in rw (t, z))
      (λ (q : e ≡ k → ⊥).
      let t : eqb e k ≡ false = ne_eqb e k q in
      let s : e - k ≡ suc (e - suc k) = omega arith in
      let more = marked_at (suc k) ps d (omega arith) (omega arith) in
      rw (t, s) (ap (λ qs. p ∷ qs) more))
      (cases_eq e k)
