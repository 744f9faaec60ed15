-- A file that is laid out for entries and fences says them, and keeps the facts of a journal bookie's type.
use Rattle.std.proofs.Common.{◌≡◌, ℕ, ◌+◌, ◌-◌, ◌/◌, ◌<◌, ◌≤◌, Bool, true, List, ◌++◌, length, drop, replicate, sym, refl, ap, ◌∙◌, subst, arith}
use Rattle.std.proofs.lemmas.Nat.{from_le_bytes-to_le_bytes_4}
use Rattle.std.proofs.lemmas.List.{length-append, length-replicate}
use Rattle.std.proofs.lemmas.Bool.{and_parts, leb-true, eqb-true}
use Rattle.messages.specs.declared.entries.Held.{Held}
use Rattle.journals.specs.Numbers.{le4}
use Rattle.journals.specs.Fences.{word, flags}
use Rattle.journals.specs.Records.{images, records_of}
use Rattle.journals.specs.Files.{header_image, laid_out, end_of, space_behind, entries_in, fences_in, space_in, all_fit, fits}
use Rattle.journals.proofs.Bits.{flags_word, word_small, length_flags}
use Rattle.journals.proofs.Images.{length_images, images_say}

-- what a header says, and what stands behind it
module _ (c e w n : ℕ) (rest : List ℕ) where
  header_count : c < 4294967296 → le4 (header_image c e w n ++ rest) 0 ≡ c
  unfolding le4 header_image
  header_count = from_le_bytes-to_le_bytes_4 c

  header_end : e < 4294967296 → le4 (header_image c e w n ++ rest) 4 ≡ e
  unfolding le4 header_image
  header_end = from_le_bytes-to_le_bytes_4 e

  header_fences : w < 4294967296 → le4 (header_image c e w n ++ rest) 8 ≡ w
  unfolding le4 header_image
  header_fences = from_le_bytes-to_le_bytes_4 w

  header_size : n < 4294967296 → le4 (header_image c e w n ++ rest) 12 ≡ n
  unfolding le4 header_image
  header_size = from_le_bytes-to_le_bytes_4 n

  pub header_rest : drop 32 (header_image c e w n ++ rest) ≡ rest
  unfolding header_image
  header_rest = refl

  header_long : length (header_image c e w n ++ rest) ≡ 32 + length rest
  unfolding header_image
  header_long = omega arith

-- entries and fences that a file of a size can have
pub record Fit (n : ℕ) (es : List Held) (fs : List Bool) : Type 0 where
  pub least : 84 ≤ n
  pub most : n ≤ 65536
  pub room : end_of es ≤ n
  pub all_flags : length fs ≡ 16
  pub sound : all_fit es ≡ true

pub fit_from : (n : ℕ) (es : List Held) (fs : List Bool) → fits n es fs ≡ true → Fit n es fs
fit_from n es fs fit =
    let p = and_parts _ _ fit in
    let size = and_parts _ _ p.0 in
    let q = and_parts _ _ p.1 in
    let r = and_parts _ _ q.1 in
    record {
      least = leb-true 84 n size.0;
      most = leb-true n 65536 size.1;
      room = leb-true (end_of es) n q.0;
      all_flags = eqb-true (length fs) 16 r.0;
      sound = r.1;
    }

-- what a file says, number by number
pub record Says (f : List ℕ) (n : ℕ) (es : List Held) (fs : List Bool) : Type 0 where
  pub long : length f ≡ n
  pub count : le4 f 0 ≡ length es
  pub end : le4 f 4 ≡ end_of es
  pub bits : le4 f 8 ≡ word fs
  pub size : le4 f 12 ≡ n
  pub rest : drop 32 f ≡ images es ++ replicate (n - end_of es) 0
  pub entries : entries_in f ≡ es
  pub fences : fences_in f ≡ fs
  pub space : space_in f ≡ space_behind n es

module _ (n : ℕ) (es : List Held) (fs : List Bool) (fit : Fit n es fs) where
  laid_says : Says (laid_out n es fs) n es fs
  unfolding laid_out entries_in fences_in space_in
  laid_says =
      let zeros : List ℕ = replicate (n - end_of es) 0 in
      let rest : List ℕ = images es ++ zeros in
      let room = fit.room in
      let most = fit.most in
      let c = header_count (length es) (end_of es) (word fs) n rest (omega arith) in
      let e = header_end (length es) (end_of es) (word fs) n rest (omega arith) in
      let w = header_fences (length es) (end_of es) (word fs) n rest (omega (arith, word_small fs fit.all_flags)) in
      let s = header_size (length es) (end_of es) (word fs) n rest (omega arith) in
      let r = header_rest (length es) (end_of es) (word fs) n rest in
      record {
        long =
            omega (
              arith,
              header_long (length es) (end_of es) (word fs) n rest,
              length-append (images es) zeros,
              length_images es,
              length-replicate {A = ℕ} (n - end_of es) 0,
            );
        count = c;
        end = e;
        bits = w;
        size = s;
        rest = r;
        entries =
            ap (λ k. records_of k (drop 32 (laid_out n es fs))) c ∙ ap (records_of (length es)) r
            ∙ images_say es zeros fit.sound;
        fences = ap flags w ∙ flags_word fs fit.all_flags;
        space = ap (λ k. (le4 (laid_out n es fs) 12 - k) / 52) e ∙ ap (λ k. (k - end_of es) / 52) s;
      }

  -- the same of a file that is known to be so laid out
  pub says : (f : List ℕ) → f ≡ laid_out n es fs → Says f n es fs
  says f is = subst (λ g. Says g n es fs) (sym is) laid_says

-- the facts of a journal bookie's type
pub record Stands (f : List ℕ) : Type 0 where
  pub least : 84 ≤ length f
  pub most : length f ≤ 65536
  pub room : end_of (entries_in f) ≤ length f
  pub sound : all_fit (entries_in f) ≡ true
  pub laid : f ≡ laid_out (length f) (entries_in f) (fences_in f)

stands : (n : ℕ) (es : List Held) (fs : List Bool) (f : List ℕ) → Fit n es fs → f ≡ laid_out n es fs → Stands f
stands n es fs f fit is =
    let s = says n es fs fit f is in
    let long = s.long in
    let count = ap length s.entries in
    record {
      least = omega (arith, long, fit.least);
      most = omega (arith, long, fit.most);
      room = omega (arith, long, count, fit.room);
      sound = ap all_fit s.entries ∙ fit.sound;
      laid =
          is ∙ ap (λ m. laid_out m es fs) (sym long) ∙ ap (λ xs. laid_out (length f) xs fs) (sym s.entries)
          ∙ ap (laid_out (length f) (entries_in f)) (sym s.fences);
    }

-- both of a file that was written anew
pub record Written (f : List ℕ) (n : ℕ) (es : List Held) (fs : List Bool) : Type 0 where
  pub keeps : Stands f
  pub tells : Says f n es fs

pub written : (n : ℕ) (es : List Held) (fs : List Bool) (f : List ℕ) → Fit n es fs → f ≡ laid_out n es fs → Written f n es fs
written n es fs f fit is = record { keeps = stands n es fs f fit is; tells = says n es fs fit f is }

-- a file with these facts says its own entries and fences
module _ (f : List ℕ) (s : Stands f) where
  length_fences : length (fences_in f) ≡ 16
  unfolding fences_in
  length_fences = length_flags (le4 f 8)

  pub own_fit : Fit (length f) (entries_in f) (fences_in f)
  own_fit = record { least = s.least; most = s.most; room = s.room; all_flags = length_fences; sound = s.sound }

  pub own : Says f (length f) (entries_in f) (fences_in f)
  own = says (length f) (entries_in f) (fences_in f) own_fit f s.laid
