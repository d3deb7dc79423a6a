-- The image of a source is that of its listing.
use Rattle.std.proofs.Common.{◌≡◌, ℕ, List, Option, Some, None, Ok, Err, refl, sym, ap}
use Rattle.std.proofs.Common.{subst, ◌∙◌, ◌⊎◌, inl, inr, length, map, is_some}
use Rattle.std.proofs.Common.{true, false, Bool, cond, nat_lt, []}
use Rattle.std.specs.Prelude.{unwrap_or, suc}
use Rattle.fp_asm.specs.Pieces.{Text}
use Rattle.fp_asm.specs.Lines.{lines_of}
use Rattle.fp_asm.specs.First.{Placed, start, first_pass, location_of, is_taken}
use Rattle.fp_asm.specs.Second.{Written, nothing_written, second_pass}
use Rattle.fp_asm.specs.Runs.{runs_of, segment_of, word_bytes, word_at}
use Rattle.fp_asm.specs.Source.{segments_at, assembled_lines, most_source_bytes, assembly_of}
use Rattle.fp_asm.specs.declared.refusal.AsmNo.TheVariants as no
use Rattle.fp_asm.specs.declared.refusal.AsmRefused.TheVariants as refused
use Rattle.fp_asm.proofs.Soundness.{first_placed}
use Rattle.fp_image.specs.declared.parts.Segment.{Segment}
use Rattle.fp_image.specs.Rules.{most_segments}
use Rattle.asm_laws.specs.Listing.{IsPlaced, IsLabel}
use Rattle.asm_laws.specs.Segments.{IsWordIn}
use Rattle.asm_laws.specs.Laws.{IsListed}
use Rattle.asm_laws.proofs.Results.{inverted, held, same_ok}
use Rattle.asm_laws.proofs.Words.{at}
use Rattle.asm_laws.proofs.Passes.{Pass, passes, LabelPass, label_pass}
use Rattle.asm_laws.proofs.Runs.{AllWords, all_words}

listed : (lines : List Text) (ss : List Segment) (p : Placed) (w : Written) →
    Pass p.labels 0 lines [] w.memory p.taken → LabelPass 0 lines [] p.labels →
    AllWords w.memory p.taken ss → IsListed lines ss
listed lines ss p w pass labels words = record {
  labels = p.labels;
  labelled = λ x a. (λ h. by_label x a (labels.only x a h), λ h. labels.new_ x a h);
  made = pass.made;
  placed = λ a v h. by_word a v (pass.new_ a v h);
  only = λ a bytes h. let r = words.only a bytes h in by_place a bytes r.0 r.1 (at w.memory a) refl;
  maximal = words.maximal;
}
  where
    by_label : (x : Text) (a : ℕ) → (location_of [] x ≡ Some a) ⊎ IsLabel 0 lines x a →
        IsLabel 0 lines x a
    by_label x a (inl h) = absurd (cc)
    by_label x a (inr h) = h

    by_word : (a v : ℕ) → at w.memory a ≡ Some v → IsWordIn ss a (word_bytes v)
    by_word a v h =
        let is : word_at w.memory a ≡ v = ap (λ (o : Option ℕ). unwrap_or o 0) h in
        subst (λ u. IsWordIn ss a (word_bytes u)) is
        (words.has a (pass.same a ∙ ap is_some h))

    by_place : (a : ℕ) (bytes : List ℕ) → is_taken p.taken a ≡ true →
        bytes ≡ word_bytes (word_at w.memory a) → (o : Option ℕ) → at w.memory a ≡ o →
        (v : ℕ) × (bytes ≡ word_bytes v) × IsPlaced p.labels 0 lines a v
    by_place a bytes t is None h =
        let none : is_some (at w.memory a) ≡ true = sym (pass.same a) ∙ t in absurd (cc)
    by_place a bytes t is (Some v) h =
        let word : word_at w.memory a ≡ v = ap (λ (o : Option ℕ). unwrap_or o 0) h in
        (v, is ∙ ap word_bytes word, by_only (pass.only a v h))
      where
        by_only : (at [] a ≡ Some v) ⊎ IsPlaced p.labels 0 lines a v → IsPlaced p.labels 0 lines a v
        by_only (inl e) = absurd (cc)
        by_only (inr e) = e

lines_listed : (lines : List Text) (ss : List Segment) → assembled_lines lines ≡ Ok ss →
    IsListed lines ss
unfolding assembled_lines segments_at
lines_listed lines ss h =
    let p = inverted (first_pass 1 start lines) _ ss h in
    let w = inverted (second_pass 1 p.0.labels nothing_written lines) _ ss p.2 in
    let s = held (nat_lt (length (runs_of p.0.taken)) (suc most_segments))
    (refused.Fault 0 no.TooManySegments) (Ok (map (segment_of w.0.memory) (runs_of p.0.taken)))
    ss w.2 in
    let is : map (segment_of w.0.memory) (runs_of p.0.taken) ≡ ss =
    same_ok (Ok (map (segment_of w.0.memory) (runs_of p.0.taken)))
    (map (segment_of w.0.memory) (runs_of p.0.taken)) ss refl s.1 in
    listed lines ss p.0 w.0
    (passes 1 p.0.labels start p.0 nothing_written w.0 lines (λ b. refl) refl p.1 w.1)
    (label_pass 1 start p.0 lines p.1)
    (subst (λ (xs : List Segment). AllWords w.0.memory p.0.taken xs) is
    (all_words w.0.memory p.0.taken (first_placed lines p.0 p.1)))

pub assembled_listing : (source : Text) (ss : List Segment) → assembly_of source ≡ Ok ss →
    IsListed (lines_of source) ss
unfolding assembly_of
assembled_listing source ss h = go (nat_lt most_source_bytes (length source)) h
  where
    go : (b : Bool) → cond b (Err (refused.Fault 0 no.TooLong)) (assembled_lines (lines_of source))
        ≡ Ok ss → IsListed (lines_of source) ss
    go true h = absurd (cc)
    go false h = lines_listed (lines_of source) ss h
