-- Two bodies are one where they have the same bytes.
use Rattle.std.proofs.Common.{◌≡◌, true, ◌&&◌, eqb, Decides, take, sym, refl, ap, ◌∙◌, subst, arith}
use Rattle.std.proofs.lemmas.Bool.{and_parts, and_from, eqb-true}
use Rattle.std.proofs.lemmas.Bool.Decides.{same_from_decides, nat_tests}
use Rattle.std.proofs.lemmas.Slice.Eq.{bytes_eq-Decides}
use Rattle.std.specs.Str.{bytes_eq}
use Rattle.ledgers.specs.Bodies.{content, body_of}
use Rattle.ledgers.specs.declared.bodies.Body.{Body}
use Rattle.ledgers.proofs.Same.{body_of_content}

module _ (a b : Body) where
  same_decides : Decides (eqb a.0.count b.0.count && bytes_eq a.0.items b.0.items) (content a ≡ content b)
  same_decides = (
    λ yes.
        let p = and_parts _ _ yes in
        ap (λ n. take n a.0.items) (eqb-true a.0.count b.0.count p.0) ∙ ap (take b.0.count) ((bytes_eq-Decides a.0.items b.0.items).0 p.1),
    λ e.
        let self : eqb a.0.count a.0.count ≡ true = grind (arith, nat_tests) in
        let one : a ≡ b = sym (body_of_content a) ∙ ap body_of e ∙ body_of_content b in
        subst (λ (x : Body). (eqb a.0.count x.0.count && bytes_eq a.0.items x.0.items) ≡ true) one
        (and_from _ _ self ((bytes_eq-Decides a.0.items a.0.items).1 refl)),
  )

  pub same_body : (eqb a.0.count b.0.count && bytes_eq a.0.items b.0.items) ≡ bytes_eq (content a) (content b)
  same_body = same_from_decides _ _ same_decides (bytes_eq-Decides (content a) (content b))
