-- Entries as records, and back.
use Rattle.std.proofs.Common.{◌≡◌, ℕ, ◌+◌, ◌-◌, ◌*◌, ◌<◌, ◌≤◌, min, true, ◌&&◌, leb, List, [], ◌∷◌, ◌++◌, length, take, drop, replicate, Some, None, Option, sym, refl, ap, ◌∙◌, append_assoc, append-nil, arith}
use Rattle.std.proofs.lemmas.Nat.{from_le_bytes-to_le_bytes_2, from_le_bytes-to_le_bytes_4}
use Rattle.std.proofs.lemmas.List.{take_at, drop_at, length-append, length-replicate, length-take}
use Rattle.std.proofs.lemmas.Bool.{and_parts, and_from, leb-true, ltb-true, le-leb, cond-true}
use Rattle.ledgers.specs.Bodies.{content, body_of, made_body}
use Rattle.ledgers.specs.declared.bodies.Body.{Body}
use Rattle.ledgers.specs.Limits.{is_ledger, is_entry}
use Rattle.ledgers.specs.Ids.{ledger_id, entry_id, lac_id}
use Rattle.ledgers.proofs.Same.{content_short, body_of_content}
use Rattle.messages.specs.declared.entries.Held.{Held}
use Rattle.protocol.specs.Bookies.{add_fits}
use Rattle.journals.specs.Numbers.{le2, le4}
use Rattle.journals.specs.Records.{record_image, images, record_of, records_of}
use Rattle.journals.specs.Files.{all_fit}

-- what a good answer holds, or else d
abbrev held_in : Body → Option Body → Body
held_in d None = d
held_in d (Some b) = b

-- bytes that are few enough make the body of them
made_is : (bs : List ℕ) (b : Body) → length bs ≤ 40 → Some b ≡ made_body bs → b ≡ body_of bs
made_is bs b few made = ap (held_in b) (made ∙ cond-true _ _ _ (le-leb (length bs) 40 few))

-- the body that the code reads from a record, k being the length that stands there
pub body_read : (part : List ℕ) (n k : ℕ) (b : Body) → n ≡ min 40 k → Some b ≡ made_body (take (12 + n - 12) (drop 12 part))
    → b ≡ body_of (take (min 40 k) (drop 12 part))
body_read part n k b is made =
    let m : 12 + n - 12 ≡ min 40 k = omega arith in
    made_is (take (min 40 k) (drop 12 part)) b (omega (arith, length-take (min 40 k) (drop 12 part)))
    (made ∙ ap (λ j. made_body (take j (drop 12 part))) m)

pub image_long : (h : Held) → length (record_image h) ≡ 52
unfolding record_image
image_long h =
    let short = content_short h.body in
    let tail = length-append (content h.body) (replicate (40 - length (content h.body)) 0) in
    let zeros = length-replicate {A = ℕ} (40 - length (content h.body)) 0 in
    omega (arith, short, tail, zeros)

-- the numbers of an entry that there can be have room in a record
record Small (h : Held) : Type 0 where
  pub ledger : h.ledger.0 < 65536
  pub entry : h.entry.0 < 4294967296
  pub lac : h.lac.0 < 4294967296

small : (h : Held) → add_fits h.ledger h.entry h.lac ≡ true → Small h
small h fit =
    let p = and_parts (is_ledger h.ledger.0) (is_entry h.entry.0 && leb h.lac.0 h.entry.0) fit in
    let l = and_parts (leb 1 h.ledger.0) (leb h.ledger.0 16) p.0 in
    let q = and_parts (is_entry h.entry.0) (leb h.lac.0 h.entry.0) p.1 in
    let most = leb-true h.ledger.0 16 l.1 in
    let below = ltb-true h.entry.0 10000 q.0 in
    let under = leb-true h.lac.0 h.entry.0 q.1 in
    record { ledger = omega (arith, most); entry = omega (arith, below); lac = omega (arith, below, under) }

-- a record says the entry that it was made of
pub image_says : (h : Held) → add_fits h.ledger h.entry h.lac ≡ true → record_of (record_image h) ≡ h
unfolding record_image record_of le2 le4
image_says h fit =
    let s = small h fit in
    let bytes = content h.body in
    let short = content_short h.body in
    let n : min 40 (le2 (record_image h) 2) ≡ length bytes = omega (arith, short, from_le_bytes-to_le_bytes_2 (length bytes) (omega (arith, short))) in
    let t : take (length bytes) (bytes ++ replicate (40 - length bytes) 0) ≡ bytes = take_at bytes _ _ refl in
    let b : body_of (take (min 40 (le2 (record_image h) 2)) (drop 12 (record_image h))) ≡ h.body =
    ap (λ k. body_of (take k (bytes ++ replicate (40 - length bytes) 0))) n ∙ ap body_of t ∙ body_of_content h.body in
    λ i.
    record {
      ledger = ledger_id (from_le_bytes-to_le_bytes_2 h.ledger.0 s.ledger i);
      entry = entry_id (from_le_bytes-to_le_bytes_4 h.entry.0 s.entry i);
      lac = lac_id (from_le_bytes-to_le_bytes_4 h.lac.0 s.lac i);
      body = b i;
    }

pub length_images : (es : List Held) → length (images es) ≡ 52 * length es
length_images [] = refl
length_images (h ∷ hs) =
    omega (arith, length-append (record_image h) (images hs), image_long h, length_images hs)

-- and records say the entries that they were made of, whatever stands behind them
pub images_say : (es : List Held) (rest : List ℕ) → all_fit es ≡ true → records_of (length es) (images es ++ rest) ≡ es
images_say [] rest fit = refl
images_say (h ∷ hs) rest fit =
    let p = and_parts _ _ fit in
    let a = append_assoc (record_image h) (images hs) rest in
    let first = ap (take 52) a ∙ take_at (record_image h) (images hs ++ rest) 52 (image_long h) in
    let others = ap (drop 52) a ∙ drop_at (record_image h) (images hs ++ rest) 52 (image_long h) in
    ap (λ x. record_of x ∷ records_of (length hs) (drop 52 (images (h ∷ hs) ++ rest))) first
    ∙ ap (λ x. x ∷ records_of (length hs) (drop 52 (images (h ∷ hs) ++ rest))) (image_says h p.0)
    ∙ ap (λ x. h ∷ records_of (length hs) x) others
    ∙ ap (λ x. h ∷ x) (images_say hs rest p.1)

-- one entry more is one record more
pub images_push : (es : List Held) (h : Held) (rest : List ℕ)
    → images (es ++ (h ∷ [])) ++ rest ≡ images es ++ (record_image h ++ rest)
images_push [] h rest = ap (λ x. x ++ rest) (append-nil (record_image h))
images_push (x ∷ es) h rest =
    append_assoc (record_image x) (images (es ++ (h ∷ []))) rest
    ∙ ap (λ y. record_image x ++ y) (images_push es h rest)
    ∙ sym (append_assoc (record_image x) (images es) (record_image h ++ rest))

pub fit_push : (es : List Held) (h : Held) → all_fit es ≡ true → add_fits h.ledger h.entry h.lac ≡ true
    → all_fit (es ++ (h ∷ [])) ≡ true
fit_push [] h fit one = and_from _ _ one refl
fit_push (x ∷ es) h fit one = let p = and_parts _ _ fit in and_from _ _ p.0 (fit_push es h p.1 one)
