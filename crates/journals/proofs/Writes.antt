-- What the writes of a journal bookie leave: a file that is laid out for one entry or one fence more.
use Rattle.std.proofs.Common.{◌≡◌, ℕ, ◌+◌, ◌-◌, ◌*◌, ◌≤◌, Bool, true, false, leb, List, [], ◌∷◌, ◌++◌, length, take, drop, replicate, sym, refl, ap, ◌∙◌, arith, length-set}
use Rattle.std.proofs.lemmas.List.{take_at, drop-append-le, drop_at, drop-take, drop-drop, drop-replicate, length-take-le, length_push}
use Rattle.std.proofs.lemmas.Bool.{and_parts, leb-true}
use Rattle.ledgers.specs.Tables.{row, renumbered}
use Rattle.messages.specs.declared.entries.Held.{Held}
use Rattle.protocol.specs.Bookies.{add_fits}
use Rattle.journals.specs.Fences.{word, flags}
use Rattle.journals.specs.Records.{record_image, images}
use Rattle.journals.specs.Files.{header_image, laid_out, end_of, entries_in, fences_in, space_in, size_fits}
use Rattle.journals.specs.Headers.{header_of}
use Rattle.journals.specs.declared.headers.Header.{Header}
use Rattle.journals.proofs.Bits.{flags_word}
use Rattle.journals.proofs.Images.{length_images, images_push, fit_push}
use Rattle.journals.proofs.Laid.{Stands, Written, written, own, own_fit}

-- a header and what it stands before, for any entries and fences
header_laid : (n : ℕ) (es : List Held) (fs : List Bool) (c e w m : ℕ) (rest : List ℕ)
    → c ≡ length es → e ≡ end_of es → w ≡ word fs → m ≡ n → rest ≡ images es ++ replicate (n - end_of es) 0
    → header_image c e w m ++ rest ≡ laid_out n es fs
unfolding laid_out
header_laid n es fs c e w m rest ic ie iw im ir = simp (ic, ie, iw, im, ir)

-- f says es in n bytes
module _ (f : List ℕ) (n : ℕ) (es : List Held) (long : length f ≡ n) (behind : drop 32 f ≡ images es ++ replicate (n - end_of es) 0) where
  -- what stands behind the header once a record is written at the free end
  record_rest : (h : Held) → end_of es + 52 ≤ n
      → drop 32 (take (end_of es) f ++ (record_image h ++ drop (end_of es + 52) f))
      ≡ images (es ++ (h ∷ [])) ++ replicate (n - end_of (es ++ (h ∷ []))) 0
  record_rest h room =
      let zeros : List ℕ = replicate (n - end_of es) 0 in
      let z : List ℕ = record_image h ++ drop (end_of es + 52) f in
      let count = length_images es in
      let front : 32 ≤ length (take (end_of es) f) = omega (arith, length-take-le (end_of es) f (omega arith)) in
      let kept : drop 32 (take (end_of es) f) ≡ images es =
      drop-take 32 (52 * length es) f ∙ ap (take (52 * length es)) behind ∙ take_at (images es) zeros (52 * length es) count in
      let far : end_of es + 52 ≡ 32 + (52 * length es + 52) = omega arith in
      let left : drop (end_of es + 52) f ≡ replicate (n - end_of es - 52) 0 =
      ap (λ k. drop k f) far ∙ sym (drop-drop (52 * length es + 52) 32 f) ∙ ap (drop (52 * length es + 52)) behind
      ∙ sym (drop-drop 52 (52 * length es) (images es ++ zeros))
      ∙ ap (drop 52) (drop_at (images es) zeros (52 * length es) count) ∙ drop-replicate {X = ℕ} 52 (n - end_of es) 0 in
      let less : n - end_of es - 52 ≡ n - end_of (es ++ (h ∷ [])) = omega (arith, length_push es h) in
      drop-append-le 32 (take (end_of es) f) z front ∙ ap (λ x. x ++ z) kept
      ∙ ap (λ x. images es ++ (record_image h ++ x)) (left ∙ ap (λ k. replicate k 0) less)
      ∙ sym (images_push es h (replicate (n - end_of (es ++ (h ∷ []))) 0))

  -- an add writes the record at the free end, and then the header
  entry_written : (fs : List Bool) (h : Held) (g k : List ℕ) → end_of es + 52 ≤ n
      → g ≡ take (end_of es) f ++ (record_image h ++ drop (end_of es + 52) f)
      → k ≡ header_image (length es + 1) (end_of es + 52) (word fs) n ++ drop 32 g
      → k ≡ laid_out n (es ++ (h ∷ [])) fs
  entry_written fs h g k room put headed =
      headed
      ∙ header_laid n (es ++ (h ∷ [])) fs (length es + 1) (end_of es + 52) (word fs) n _ (omega (arith, length_push es h))
      (omega (arith, length_push es h)) refl refl
      (ap (drop 32) put ∙ record_rest h room)

  -- a fence writes the header alone
  fence_written : (fs : List Bool) (k : List ℕ) (w : ℕ) → k ≡ header_image (length es) (end_of es) w n ++ drop 32 f
      → w ≡ word fs → k ≡ laid_out n es fs
  fence_written fs k w headed is = headed ∙ header_laid n es fs (length es) (end_of es) w n (drop 32 f) refl refl is refl behind

-- the same of a journal bookie's file, from the header that is read there
module _ (f : List ℕ) (s : Stands f) (old : Header) (reads : old ≡ header_of (length f) (entries_in f) (fences_in f)) where
  pub entry_kept : (h : Held) (g k : List ℕ) → add_fits h.ledger h.entry h.lac ≡ true → 1 ≤ space_in f
      → g ≡ take old.end f ++ (record_image h ++ drop (old.end + 52) f)
      → k ≡ header_image (old.count + 1) (old.end + 52) old.fences old.size ++ drop 32 g
      → Written k (length f) (entries_in f ++ (h ∷ [])) (fences_in f)
  entry_kept h g k fit some put headed =
      let o = own f s in
      let space = o.space in
      let more = length_push (entries_in f) h in
      let room : end_of (entries_in f) + 52 ≤ length f = omega arith in
      let known = own_fit f s in
      written (length f) (entries_in f ++ (h ∷ [])) (fences_in f) k
      (record {
        least = known.least;
        most = known.most;
        room = omega arith;
        all_flags = known.all_flags;
        sound = fit_push (entries_in f) h known.sound fit;
      })
      (entry_written f (length f) (entries_in f) (omega arith) o.rest (fences_in f) h g k room
      (put ∙ ap (λ (x : Header). take x.end f ++ (record_image h ++ drop (x.end + 52) f)) reads)
      (headed ∙ ap (λ (x : Header). header_image (x.count + 1) (x.end + 52) x.fences x.size ++ drop 32 g) reads))

  pub fence_kept : (l w : ℕ) (k : List ℕ) → w ≡ word (renumbered (flags old.fences) l true)
      → k ≡ header_image old.count old.end w old.size ++ drop 32 f
      → Written k (length f) (entries_in f) (renumbered (fences_in f) l true)
  fence_kept l w k is headed =
      let o = own f s in
      let known = own_fit f s in
      let fs = fences_in f in
      written (length f) (entries_in f) (renumbered fs l true) k
      (record {
        least = known.least;
        most = known.most;
        room = known.room;
        all_flags = length-set fs (row fs l) true ∙ known.all_flags;
        sound = known.sound;
      })
      (fence_written f (length f) (entries_in f) (omega arith) o.rest (renumbered fs l true) k w
      (headed ∙ ap (λ (x : Header). header_image x.count x.end w x.size ++ drop 32 f) reads)
      (is ∙ ap (λ (x : Header). word (renumbered (flags x.fences) l true)) reads
      ∙ ap (λ xs. word (renumbered xs l true)) (flags_word fs known.all_flags)))

-- a new file: zeros, and a header over them
pub new_written : (f g k : List ℕ) → size_fits (length f) ≡ true → g ≡ replicate (length f) 0
    → k ≡ header_image 0 32 0 (length f) ++ drop 32 g
    → Written k (length f) [] (replicate 16 false) × (k ≡ laid_out (length f) [] (replicate 16 false))
new_written f g k size zeros headed =
    let p = and_parts (leb 84 (length f)) (leb (length f) 65536) size in
    let least = leb-true 84 (length f) p.0 in
    let most = leb-true (length f) 65536 p.1 in
    let none : List Bool = replicate 16 false in
    let is : k ≡ laid_out (length f) [] none =
    headed
    ∙ header_laid (length f) [] none 0 32 0 (length f) (drop 32 g) refl refl refl refl
    (ap (drop 32) zeros ∙ drop-replicate {X = ℕ} 32 (length f) 0) in
    (written (length f) [] none k (record { least = least; most = most; room = omega arith; all_flags = refl; sound = refl }) is, is)
