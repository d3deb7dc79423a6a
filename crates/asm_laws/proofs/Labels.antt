-- The labels of lines.
use Rattle.std.proofs.Common.{◌≡◌, ℕ, zero, suc, ◌<◌, Bool, true, false, List, []}
use Rattle.std.proofs.Common.{◌∷◌, Option, Some, None, Ok, Err, refl, sym, subst, ◌∙◌, ap}
use Rattle.std.proofs.Common.{◌⊎◌, inl, inr, length, is_some, arith, Ordering, cond}
use Rattle.std.specs.declared.cmp.Ordering.TheVariants.{Less, Equal, Greater}
use Rattle.std.specs.Prelude.{Contains, slice_index_or}
use Rattle.std.specs.Cmp.Lexicographic.{slice_cmp}
use Rattle.std.specs.Ordering.{nat_cmp, is_eq}
use Rattle.std.specs.BTreeMap.{insert_entry}
use Rattle.std.proofs.lemmas.Cmp.{nat_list_cmp_total}
use Rattle.std.proofs.lemmas.Map.Lookups.{exact_bytes}
use Rattle.fp_asm.specs.Pieces.{Text, Piece, name, number, comma, colon}
use Rattle.fp_asm.specs.Pieces.{opening, closing, plus, minus}
use Rattle.fp_asm.specs.First.{Labels, location_of, with_label, with_labels, has_label}
use Rattle.fp_asm.specs.Second.{after_labels}
use Rattle.fp_asm.specs.declared.refusal.AsmNo.TheVariants as no
use Rattle.fp_asm.proofs.LabelByLabel.{labelled_none, after_none}
use Rattle.asm_laws.specs.Listing.{head_labels}
use Rattle.asm_laws.proofs.Results.{inverted, same_ok}
use Rattle.asm_laws.proofs.Entries.{found, kept}

abbrev pub R : Text → Text → Ordering
R = slice_cmp nat_cmp

-- membership, one element at a time
pub first_in : {X : Type 0} (x y : X) (xs : List X) → y ≡ x → Contains (y ∷ xs) x
first_in x y xs e = (0, omega arith, e)

pub later_in : {X : Type 0} (x y : X) (xs : List X) → Contains xs x → Contains (y ∷ xs) x
later_in x y xs c = (suc c.0, omega (arith, c.1), c.2)

pub split_in : {X : Type 0} (x y : X) (xs : List X) → Contains (y ∷ xs) x → (y ≡ x) ⊎ Contains xs x
split_in {X} x y xs c = go c.0 c.1 c.2
  where
    go : (k : ℕ) → k < length (y ∷ xs) → slice_index_or (y ∷ xs) k x ≡ x →
        (y ≡ x) ⊎ Contains xs x
    go zero lt e = inl e
    go (suc k) lt e = inr (k, omega (arith, lt), e)

none_in : {X : Type 0} (x : X) → Contains [] x → ⊥
none_in x c = absurd (omega (arith, c.1))

none_some : {a : ℕ} → None ≡ Some a → ⊥
none_some e = cc

-- one more label
module _ (location : ℕ) (labels more : Labels) (x : Text) (h : with_label location labels x
    ≡ Ok more)
  where
    added : more ≡ insert_entry R labels x location
    unfolding with_label
    added = go (is_some (location_of labels x)) h
      where
        go : (b : Bool) → cond b (Err no.DoubleLabel) (Ok (insert_entry R labels x location))
            ≡ Ok more →
            more ≡ insert_entry R labels x location
        go true h = absurd (cc)
        go false h = let same : insert_entry R labels x location ≡ more = cc in sym same

    new : location_of labels x ≡ None
    unfolding with_label
    new = go (location_of labels x) refl h
      where
        go : (o : Option ℕ) → location_of labels x ≡ o →
            cond (is_some o) (Err no.DoubleLabel) (Ok (insert_entry R labels x location))
            ≡ Ok more →
            location_of labels x ≡ None
        go None e h = e
        go (Some a) e h = absurd (cc)

    now : location_of more x ≡ Some location
    now = rw added (found nat_list_cmp_total exact_bytes x location labels)

    others : (y : Text) → is_eq (R y x) ≡ false → location_of more y ≡ location_of labels y
    others y h = rw added (kept nat_list_cmp_total exact_bytes x location y labels h)

    pub to_label : (y : Text) (a : ℕ) → location_of more y ≡ Some a →
        (location_of labels y ≡ Some a) ⊎ ((x ≡ y) × (a ≡ location))
    to_label y a e = go (R y x) refl
      where
        go : (o : Ordering) → R y x ≡ o →
            (location_of labels y ≡ Some a) ⊎ ((x ≡ y) × (a ≡ location))
        go Equal h =
            let same : y ≡ x = exact_bytes y x h in
            let at : Some location ≡ Some a = sym now ∙ ap (location_of more) (sym same) ∙ e in
            inr (sym same, cc)
        go Less h = inl (sym (others y (rw h refl)) ∙ e)
        go Greater h = inl (sym (others y (rw h refl)) ∙ e)

    pub from_label : (y : Text) (a : ℕ) → location_of labels y ≡ Some a →
        location_of more y ≡ Some a
    from_label y a e = go (R y x) refl
      where
        go : (o : Ordering) → R y x ≡ o → location_of more y ≡ Some a
        go Equal h =
            let same : location_of labels x ≡ Some a = subst (λ z. location_of labels z
            ≡ Some a) (exact_bytes y x h) e in
            absurd (none_some (sym new ∙ same))
        go Less h = others y (rw h refl) ∙ e
        go Greater h = others y (rw h refl) ∙ e

    pub new_label : location_of more x ≡ Some location
    new_label = now

-- the labels at the head of pieces are added, at one location
pub record Labelled (location : ℕ) (labels more : Labels) (ps rest : List Piece) : Type 0 where
  pub rest_is : rest ≡ after_labels ps
  pub to : (y : Text) (a : ℕ) → location_of more y ≡ Some a →
      (location_of labels y ≡ Some a) ⊎ (Contains (head_labels ps) y × (a ≡ location))
  pub old : (y : Text) (a : ℕ) → location_of labels y ≡ Some a → location_of more y ≡ Some a
  pub new_ : (y : Text) → Contains (head_labels ps) y → location_of more y ≡ Some location

no_head : (ps : List Piece) → has_label ps ≡ false → head_labels ps ≡ []
unfolding head_labels has_label
no_head [] h = refl
no_head (name x ∷ []) h = refl
no_head (name x ∷ name y ∷ ps) h = refl
no_head (name x ∷ number y ∷ ps) h = refl
no_head (name x ∷ comma ∷ ps) h = refl
no_head (name x ∷ colon ∷ ps) h = absurd (cc)
no_head (name x ∷ opening ∷ ps) h = refl
no_head (name x ∷ closing ∷ ps) h = refl
no_head (name x ∷ plus ∷ ps) h = refl
no_head (name x ∷ minus ∷ ps) h = refl
no_head (number x ∷ ps) h = refl
no_head (comma ∷ ps) h = refl
no_head (colon ∷ ps) h = refl
no_head (opening ∷ ps) h = refl
no_head (closing ∷ ps) h = refl
no_head (plus ∷ ps) h = refl
no_head (minus ∷ ps) h = refl

-- pieces that don't begin with a label
unlabelled : (location : ℕ) (labels more : Labels) (ps rest : List Piece) →
    has_label ps ≡ false → with_labels location labels ps ≡ Ok (more, rest) →
    Labelled location labels more ps rest
unlabelled location labels more ps rest n h =
    let both : (labels, ps) ≡ (more, rest) =
    same_ok (with_labels location labels ps) (labels, ps) (more, rest)
    (labelled_none location labels ps n) h in
    let l : labels ≡ more = ap (λ (p : Labels × List Piece). p.0) both in
    let r : ps ≡ rest = ap (λ (p : Labels × List Piece). p.1) both in
    record {
      rest_is = sym r ∙ sym (after_none ps n);
      to = λ y a e. inl (ap (λ m. location_of m y) l ∙ e);
      old = λ y a e. ap (λ m. location_of m y) (sym l) ∙ e;
      new_ = λ y c. absurd (none_in y (subst (λ xs. Contains xs y) (no_head ps n) c));
    }

-- one label, and those behind it
one_more : (location : ℕ) (labels more all : Labels) (x : Text) (ps rest : List Piece) →
    with_label location labels x ≡ Ok more → Labelled location more all ps rest →
    Labelled location labels all (name x ∷ colon ∷ ps) rest
unfolding head_labels after_labels
one_more location labels more all x ps rest h l = record {
  rest_is = l.rest_is;
  to = λ y a e. by_first y a (l.to y a e);
  old = λ y a e. l.old y a (from_label location labels more x h y a e);
  new_ = λ y c. by_place y (split_in y x (head_labels ps) c);
}
  where
    by_first : (y : Text) (a : ℕ) →
        (location_of more y ≡ Some a) ⊎ (Contains (head_labels ps) y × (a ≡ location)) →
        (location_of labels y ≡ Some a) ⊎ (Contains (x ∷ head_labels ps) y × (a ≡ location))
    by_first y a (inr c) = inr (later_in y x (head_labels ps) c.0, c.1)
    by_first y a (inl e) = by_label (to_label location labels more x h y a e)
      where
        by_label : (location_of labels y ≡ Some a) ⊎ ((x ≡ y) × (a ≡ location)) →
            (location_of labels y ≡ Some a) ⊎ (Contains (x ∷ head_labels ps) y × (a ≡ location))
        by_label (inl e) = inl e
        by_label (inr c) = inr (first_in y x (head_labels ps) c.0, c.1)

    by_place : (y : Text) → (x ≡ y) ⊎ Contains (head_labels ps) y →
        location_of all y ≡ Some location
    by_place y (inl e) =
        l.old y location (subst (λ z. location_of more z ≡ Some location) e
        (new_label location labels more x h))
    by_place y (inr c) = l.new_ y c

pub labelled : (location : ℕ) (labels more : Labels) (ps rest : List Piece) →
    with_labels location labels ps ≡ Ok (more, rest) → Labelled location labels more ps rest
unfolding with_labels has_label
labelled location labels more (name x ∷ colon ∷ ps) rest h =
    let a = inverted (with_label location labels x) (λ m. with_labels location m ps)
    (more, rest) h in
    one_more location labels a.0 more x ps rest a.1 (labelled location a.0 more ps rest a.2)
labelled location labels more [] rest h = unlabelled location labels more [] rest refl h
labelled location labels more (name x ∷ []) rest h =
    unlabelled location labels more (name x ∷ []) rest refl h
labelled location labels more (name x ∷ name y ∷ ps) rest h =
    unlabelled location labels more (name x ∷ name y ∷ ps) rest refl h
labelled location labels more (name x ∷ number y ∷ ps) rest h =
    unlabelled location labels more (name x ∷ number y ∷ ps) rest refl h
labelled location labels more (name x ∷ comma ∷ ps) rest h =
    unlabelled location labels more (name x ∷ comma ∷ ps) rest refl h
labelled location labels more (name x ∷ opening ∷ ps) rest h =
    unlabelled location labels more (name x ∷ opening ∷ ps) rest refl h
labelled location labels more (name x ∷ closing ∷ ps) rest h =
    unlabelled location labels more (name x ∷ closing ∷ ps) rest refl h
labelled location labels more (name x ∷ plus ∷ ps) rest h =
    unlabelled location labels more (name x ∷ plus ∷ ps) rest refl h
labelled location labels more (name x ∷ minus ∷ ps) rest h =
    unlabelled location labels more (name x ∷ minus ∷ ps) rest refl h
labelled location labels more (number x ∷ ps) rest h =
    unlabelled location labels more (number x ∷ ps) rest refl h
labelled location labels more (comma ∷ ps) rest h =
    unlabelled location labels more (comma ∷ ps) rest refl h
labelled location labels more (colon ∷ ps) rest h =
    unlabelled location labels more (colon ∷ ps) rest refl h
labelled location labels more (opening ∷ ps) rest h =
    unlabelled location labels more (opening ∷ ps) rest refl h
labelled location labels more (closing ∷ ps) rest h =
    unlabelled location labels more (closing ∷ ps) rest refl h
labelled location labels more (plus ∷ ps) rest h =
    unlabelled location labels more (plus ∷ ps) rest refl h
labelled location labels more (minus ∷ ps) rest h =
    unlabelled location labels more (minus ∷ ps) rest refl h
