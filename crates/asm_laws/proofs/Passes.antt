-- Both passes over a listing.
use Rattle.std.proofs.Common.{◌≡◌, ℕ, zero, suc, ◌<◌, ◌+◌, ◌*◌, Bool, true, false}
use Rattle.std.proofs.Common.{List, [], ◌∷◌, Option, Some, None, Result, Ok, refl, sym, ap}
use Rattle.std.proofs.Common.{subst, ◌∙◌, ◌⊎◌, inl, inr, length, get_or, is_some, arith, not}
use Rattle.std.proofs.Common.{option_map}
use Rattle.std.specs.Prelude.{Contains}
use Rattle.std.specs.List.{list_all}
use Rattle.fp_asm.specs.Pieces.{Text, Piece, pieces_of}
use Rattle.fp_asm.specs.Statements.{Statement, statement_of, size_of, location_after}
use Rattle.fp_asm.specs.First.{Labels, Placed, location_of, is_inside, is_taken, addresses}
use Rattle.fp_asm.specs.First.{with_labels, with_taken, take_addresses, placed_size, placed_by}
use Rattle.fp_asm.specs.First.{first_line, first_pass}
use Rattle.fp_asm.specs.Second.{Memory, Written, after_labels, statement_words, with_words}
use Rattle.fp_asm.specs.Second.{written_by, second_line, second_pass}
use Rattle.fp_asm.specs.Faults.{next, in_line}
use Rattle.fp_asm.specs.declared.refusal.AsmNo.{AsmNo}
use Rattle.fp_asm.specs.declared.refusal.AsmNo.TheVariants as no
use Rattle.asm_laws.specs.Listing.{head_labels, labels_of, labels_in, statement_in}
use Rattle.asm_laws.specs.Listing.{behind, address_of, AreWordsOf, IsPlaced, IsLabel, IsMade}
use Rattle.asm_laws.proofs.Results.{inverted, held, in_line_ok, same_ok, chained}
use Rattle.asm_laws.proofs.Sizes.{sized}
use Rattle.asm_laws.proofs.Labels.{Labelled, labelled}
use Rattle.asm_laws.proofs.Words.{IsSame, Wrote, wrote, at, all_addresses}

-- A line in both passes, from an address: the addresses that were taken, the memory, and the
-- location, before and after it.
pub record Line (labels : Labels) (a : ℕ) (xs ys : List ℕ) (m n : Memory) (b c : ℕ) (line : Text) :
    Type 0 where
  pub statement : Option Statement
  pub words : List ℕ
  pub says : statement_in line ≡ Ok statement
  pub makes : AreWordsOf labels a statement words
  pub wrote : Wrote m n xs ys a words
  pub first : b ≡ behind a line
  pub second : c ≡ behind a line

abbrev pub LineOf : Labels → Placed → Placed → Written → Written → Text → Type 0
LineOf labels p q v w line =
    Line labels p.location p.taken q.taken v.memory w.memory q.location w.location line

-- a statement has its words
same_words : (labels : Labels) (a : ℕ) (s : Option Statement) (us ws : List ℕ) →
    AreWordsOf labels a s us → AreWordsOf labels a s ws → us ≡ ws
same_words labels a None us ws h k = h ∙ sym k
same_words labels a (Some s) us ws h k = same_ok (statement_words labels a s) us ws h k

unwritten : (xs : List ℕ) (m : Memory) (a : ℕ) → IsSame xs m → Wrote m m xs xs a []
unwritten xs m a s = record {
  same = s;
  old = λ b x h. h;
  new_ = λ j lt. absurd (omega (arith, lt));
  only = λ b x h. inl h;
}

free : (m : Memory) (xs : List ℕ) (a : ℕ) → IsSame xs m → not (is_taken xs a) ≡ true → at m a ≡ None
free m xs a s h = go (is_taken xs a) (at m a) (s a) h
  where
    go : (t : Bool) (o : Option ℕ) → t ≡ is_some o → not t ≡ true → o ≡ None
    go true o e h = absurd (cc)
    go false None e h = refl
    go false (Some x) e h = absurd (cc)

-- addresses of words that were taken
taken_all : (xs ys : List ℕ) (a n : ℕ) → take_addresses xs (addresses a n) ≡ Ok ys →
    (list_all is_inside (addresses a n) ≡ true)
    × (list_all (λ b. not (is_taken xs b)) (addresses a n) ≡ true)
    × (with_taken xs (addresses a n) ≡ ys)
unfolding take_addresses
taken_all xs ys a n h =
    let i = held (list_all is_inside (addresses a n)) no.OutsideMemory _ ys h in
    let f = held (list_all (λ b. not (is_taken xs b)) (addresses a n)) no.Overlap
    (Ok (with_taken xs (addresses a n))) ys i.1 in (
      i.0,
      f.0,
      same_ok (Ok (with_taken xs (addresses a n))) (with_taken xs
          (addresses a n)) ys refl f.1,
    )

placed_words : (labels : Labels) (xs ys : List ℕ) (m : Memory) (a : ℕ) (s : Statement)
    (ws : List ℕ) →
    IsSame xs m → take_addresses xs (addresses a (size_of s)) ≡ Ok ys →
    statement_words labels a s ≡ Ok ws → Wrote m (with_words m a ws) xs ys a ws
placed_words labels xs ys m a s ws same h k =
    let long : length ws ≡ size_of s = sized labels a s ws k in
    let t = taken_all xs ys a (length ws)
    (subst (λ n. take_addresses xs (addresses a n) ≡ Ok ys) (sym long) h) in
    subst (λ (zs : List ℕ). Wrote m (with_words m a ws) xs zs a ws) t.2
    (wrote ws a xs m same (all_addresses is_inside a (length ws) t.0 t.0)
    (λ j lt. free m xs (a + 4 * j) same
    (all_addresses (λ b. not (is_taken xs b)) a (length ws) t.0 t.1 j lt)))

no_statement : (labels : Labels) (p q : Placed) (v w : Written) (line : Text) →
    statement_in line ≡ Ok None → IsSame p.taken v.memory → v.location ≡ p.location →
    placed_by p None ≡ Ok q → written_by labels v None ≡ Ok w → LineOf labels p q v w line
unfolding placed_by written_by
no_statement labels p q v w line says same e h k =
    let sq : p ≡ q = cc in
    let sw : v ≡ w = cc in
    record {
      statement = None;
      words = [];
      says = says;
      makes = refl;
      wrote = subst (λ (z : Written). Wrote v.memory z.memory p.taken q.taken p.location []) sw
          (subst (λ (z : Placed). Wrote v.memory v.memory p.taken z.taken p.location []) sq
          (unwritten p.taken v.memory p.location same));
      first = subst (λ (z : Placed). z.location ≡ behind p.location line) sq (rw says refl);
      second = subst (λ (z : Written). z.location ≡ behind p.location line) sw (rw says e);
    }

a_statement : (labels : Labels) (p q : Placed) (v w : Written) (s : Statement) (line : Text) →
    statement_in line ≡ Ok (Some s) → IsSame p.taken v.memory → v.location ≡ p.location →
    placed_by p (Some (size_of s, location_after p.location s)) ≡ Ok q →
    written_by labels v (Some s) ≡ Ok w → LineOf labels p q v w line
unfolding placed_by written_by
a_statement labels p q v w s line says same e h k =
    let a : ℕ = p.location in
    let t = inverted (take_addresses p.taken (addresses a (size_of s))) _ q h in
    let u = inverted (statement_words labels v.location s) _ w k in
    let made : statement_words labels a s ≡ Ok u.0 =
    subst (λ b. statement_words labels b s ≡ Ok u.0) e u.1 in
    let q1 : Placed = record { location = location_after a s; labels = p.labels; taken = t.0 } in
    let w1 : Written = record {
      location = location_after v.location s;
      memory = with_words v.memory v.location u.0;
    } in
    let sq : q1 ≡ q = cc in
    let sw : w1 ≡ w = cc in
    record {
      statement = Some s;
      words = u.0;
      says = says;
      makes = made;
      wrote = subst (λ (z : Written). Wrote v.memory z.memory p.taken q.taken a u.0) sw
          (subst (λ (z : Placed). Wrote v.memory w1.memory p.taken z.taken a u.0) sq
          (subst (λ b. Wrote v.memory (with_words v.memory b u.0) p.taken t.0 a u.0) (sym e)
          (placed_words labels p.taken t.0 v.memory a s u.0 same t.1 made)));
      first = subst (λ (z : Placed). z.location ≡ behind a line) sq (rw says refl);
      second = subst (λ (z : Written). z.location ≡ behind a line) sw
          (rw says (ap (λ b. location_after b s) e));
    }

by_statement : (labels : Labels) (p q : Placed) (v w : Written) (l : Text) (s : Option Statement) →
    statement_in l ≡ Ok s → IsSame p.taken v.memory → v.location ≡ p.location →
    placed_by p (option_map (λ s. (size_of s, location_after p.location s)) s) ≡ Ok q →
    written_by labels v s ≡ Ok w → LineOf labels p q v w l
by_statement labels p q v w l None says same e h k = no_statement labels p q v w l says same e h k
by_statement labels p q v w l (Some s) says same e h k =
    a_statement labels p q v w s l says same e h k

-- a line's labels, and its statement, in both passes
pub line : (labels : Labels) (p q : Placed) (v w : Written) (l : Text) →
    IsSame p.taken v.memory → v.location ≡ p.location → first_line p l ≡ Ok q →
    second_line labels v l ≡ Ok w → LineOf labels p q v w l
unfolding first_line second_line placed_size
line labels p q v w l same e h k =
    let ps = inverted (pieces_of l) _ q h in
    let ls = inverted (with_labels p.location p.labels ps.0) _ q ps.2 in
    let size = inverted (placed_size p.location ls.0.1) _ q ls.2 in
    let s = inverted (statement_of ls.0.1) _ size.0 size.1 in
    let ps2 = inverted (pieces_of l) _ w k in
    let again : ps2.0 ≡ ps.0 = same_ok (pieces_of l) ps2.0 ps.0 ps2.1 ps.1 in
    let rest : ls.0.1 ≡ after_labels ps.0 =
    (labelled p.location p.labels ls.0.0 ps.0 ls.0.1 ls.1).rest_is in
    let said : statement_of (after_labels ps.0) ≡ Ok s.0 =
    subst (λ (xs : List Piece). statement_of xs ≡ Ok s.0) rest s.1 in
    let says : statement_in l ≡ Ok s.0 =
    chained (pieces_of l) (λ xs. statement_of (after_labels xs)) ps.0 s.0 ps.1 said in
    let then_ = subst (λ (xs : List Piece). next (statement_of (after_labels xs))
    (written_by labels v)
    ≡ Ok w) again ps2.2 in
    let t = inverted (statement_of (after_labels ps.0)) (written_by labels v) w then_ in
    let same_s : t.0 ≡ s.0 = same_ok (statement_of (after_labels ps.0)) t.0 s.0 t.1 said in
    let writes : written_by labels v s.0 ≡ Ok w =
    subst (λ (o : Option Statement). written_by labels v o ≡ Ok w) same_s t.2 in
    let p1 : Placed = record p { labels = ls.0.0 } in
    let o1 : Option (ℕ × ℕ) = option_map (λ s. (size_of s, location_after p.location s)) s.0 in
    let r1 : Result (Option (ℕ × ℕ)) AsmNo = Ok o1 in
    let sized_ : o1 ≡ size.0 = same_ok r1 o1 size.0 refl s.2 in
    let places : placed_by p1 o1 ≡ Ok q =
    subst (λ (o : Option (ℕ × ℕ)). placed_by p1 o ≡ Ok q) (sym sized_) size.2 in
    by_statement labels p1 q v w l s.0 says same e places writes

-- lines in both passes: no address twice, each word where its line has it, and no others
pub record Pass (labels : Labels) (a : ℕ) (lines : List Text) (m n : Memory) (ys : List ℕ) :
    Type 0 where
  pub same : IsSame ys n
  pub old : (b x : ℕ) → at m b ≡ Some x → at n b ≡ Some x
  pub new_ : (b x : ℕ) → IsPlaced labels a lines b x → at n b ≡ Some x
  pub only : (b x : ℕ) → at n b ≡ Some x → (at m b ≡ Some x) ⊎ IsPlaced labels a lines b x
  pub made : (k : ℕ) → k < length lines → IsMade labels (address_of a lines k) (get_or lines k [])

no_lines : (labels : Labels) (a : ℕ) (m : Memory) (ys : List ℕ) → IsSame ys m →
    Pass labels a [] m m ys
no_lines labels a m ys same = record {
  same = same;
  old = λ b x h. h;
  new_ = λ b x h. absurd (omega (arith, h.exists));
  only = λ b x h. inl h;
  made = λ k lt. absurd (omega (arith, lt));
}

-- a word of a later line
later : (labels : Labels) (a : ℕ) (l : Text) (lines : List Text) (b x : ℕ) →
    IsPlaced labels (behind a l) lines b x → IsPlaced labels a (l ∷ lines) b x
later labels a l lines b x h = record {
  line = suc h.line;
  index = h.index;
  statement = h.statement;
  words = h.words;
  exists = omega (arith, h.exists);
  says = h.says;
  makes = h.makes;
  within = h.within;
  stands = h.stands;
  is = h.is;
}

-- one line, and those behind it
line_more : (labels : Labels) (a : ℕ) (l : Text) (lines : List Text) (xs ys zs : List ℕ)
    (m n o : Memory) (b c : ℕ) → Line labels a xs ys m n b c l →
    Pass labels (behind a l) lines n o zs → Pass labels a (l ∷ lines) m o zs
line_more labels a l lines xs ys zs m n o b c here more = record {
  same = more.same;
  old = λ d x h. more.old d x (here.wrote.old d x h);
  new_ = λ d x h. by_line d x h;
  only = λ d x h. by_word d x (more.only d x h);
  made = by_made;
}
  where
    by_line : (d x : ℕ) → IsPlaced labels a (l ∷ lines) d x → at o d ≡ Some x
    by_line d x h = go h.line h.exists h.says h.makes h.stands
      where
        go : (k : ℕ) → k < length (l ∷ lines) →
            statement_in (get_or (l ∷ lines) k []) ≡ Ok h.statement →
            AreWordsOf labels (address_of a (l ∷ lines) k) h.statement h.words →
            d ≡ address_of a (l ∷ lines) k + 4 * h.index → at o d ≡ Some x
        go zero lt says makes stands =
            let same_s : h.statement ≡ here.statement =
            same_ok (statement_in l) h.statement here.statement says here.says in
            let words : h.words ≡ here.words = same_words labels a here.statement h.words here.words
            (subst (λ (s : Option Statement). AreWordsOf labels a s h.words) same_s makes)
            here.makes in
            let within : h.index < length here.words =
            subst (λ (ws : List ℕ). h.index < length ws) words h.within in
            let is : get_or here.words h.index 0 ≡ x =
            subst (λ (ws : List ℕ). get_or ws h.index 0 ≡ x) words h.is in
            more.old d x (subst (λ e. at n e ≡ Some x) (sym stands)
            (here.wrote.new_ h.index within ∙ ap Some is))
        go (suc k) lt says makes stands = more.new_ d x (record {
          line = k;
          index = h.index;
          statement = h.statement;
          words = h.words;
          exists = omega (arith, lt);
          says = says;
          makes = makes;
          within = h.within;
          stands = stands;
          is = h.is;
        })

    by_word : (d x : ℕ) → (at n d ≡ Some x) ⊎ IsPlaced labels (behind a l) lines d x →
        (at m d ≡ Some x) ⊎ IsPlaced labels a (l ∷ lines) d x
    by_word d x (inr h) = inr (later labels a l lines d x h)
    by_word d x (inl h) = by_old (here.wrote.only d x h)
      where
        by_old : (at m d ≡ Some x) ⊎ ((j : ℕ) × (j < length here.words) × (d ≡ a + 4 * j)
            × (get_or here.words j 0 ≡ x)) → (at m d ≡ Some x) ⊎ IsPlaced labels a (l ∷ lines) d x
        by_old (inl h) = inl h
        by_old (inr p) = inr (record {
          line = 0;
          index = p.0;
          statement = here.statement;
          words = here.words;
          exists = omega arith;
          says = here.says;
          makes = here.makes;
          within = p.1;
          stands = p.2;
          is = p.3;
        })

    by_made : (k : ℕ) → k < length (l ∷ lines) →
        IsMade labels (address_of a (l ∷ lines) k) (get_or (l ∷ lines) k [])
    by_made zero lt = (here.statement, here.words, here.says, here.makes)
    by_made (suc k) lt = more.made k (omega (arith, lt))

pub passes : (n : ℕ) (labels : Labels) (p q : Placed) (v w : Written) (lines : List Text) →
    IsSame p.taken v.memory → v.location ≡ p.location → first_pass n p lines ≡ Ok q →
    second_pass n labels v lines ≡ Ok w → Pass labels p.location lines v.memory w.memory q.taken
unfolding first_pass second_pass
passes n labels p q v w [] same e h k =
    let sq : p ≡ q = cc in
    let sw : v ≡ w = cc in
    subst (λ (z : Written). Pass labels p.location [] v.memory z.memory q.taken) sw
    (subst (λ (z : Placed). Pass labels p.location [] v.memory v.memory z.taken) sq
    (no_lines labels p.location v.memory p.taken same))
passes n labels p q v w (l ∷ lines) same e h k =
    let p1 = inverted (in_line n (first_line p l)) _ q h in
    let v1 = inverted (in_line n (second_line labels v l)) _ w k in
    let here : LineOf labels p p1.0 v v1.0 l =
    line labels p p1.0 v v1.0 l same e (in_line_ok n (first_line p l) p1.0 p1.1)
    (in_line_ok n (second_line labels v l) v1.0 v1.1) in
    let more : Pass labels p1.0.location lines v1.0.memory w.memory q.taken =
    passes (n + 1) labels p1.0 q v1.0 w lines here.wrote.same (here.second ∙ sym here.first)
    p1.2 v1.2 in
    line_more labels p.location l lines p.taken p1.0.taken q.taken v.memory v1.0.memory w.memory
    p1.0.location v1.0.location here
    (subst (λ b. Pass labels b lines v1.0.memory w.memory q.taken) here.first more)

-- the labels of lines, in the first pass
pub record LabelPass (a : ℕ) (lines : List Text) (labels more : Labels) : Type 0 where
  pub old : (x : Text) (b : ℕ) → location_of labels x ≡ Some b → location_of more x ≡ Some b
  pub new_ : (x : Text) (b : ℕ) → IsLabel a lines x b → location_of more x ≡ Some b
  pub only : (x : Text) (b : ℕ) → location_of more x ≡ Some b →
      (location_of labels x ≡ Some b) ⊎ IsLabel a lines x b

no_label_lines : (a : ℕ) (labels : Labels) → LabelPass a [] labels labels
no_label_lines a labels = record {
  old = λ x b h. h;
  new_ = λ x b h. absurd (omega (arith, h.exists));
  only = λ x b h. inl h;
}

-- a line's labels, and those of the lines behind it
label_more : (a : ℕ) (l : Text) (lines : List Text) (ps rest : List Piece)
    (labels m more : Labels) →
    pieces_of l ≡ Ok ps → Labelled a labels m ps rest → LabelPass (behind a l) lines m more →
    LabelPass a (l ∷ lines) labels more
label_more a l lines ps rest labels m more is here later = record {
  old = λ x b h. later.old x b (here.old x b h);
  new_ = λ x b h. by_line x b h.line h.exists h.has h.stands;
  only = λ x b h. by_only x b (later.only x b h);
}
  where
    heads : labels_in l ≡ head_labels ps
    heads = ap labels_of is

    by_line : (x : Text) (b k : ℕ) → k < length (l ∷ lines) →
        Contains (labels_in (get_or (l ∷ lines) k [])) x → b ≡ address_of a (l ∷ lines) k →
        location_of more x ≡ Some b
    by_line x b zero lt has stands =
        later.old x b (here.new_ x (subst (λ (xs : List Text). Contains xs x) heads has)
        ∙ ap Some (sym stands))
    by_line x b (suc k) lt has stands =
        later.new_ x b (record { line = k; exists = omega (arith, lt); has = has; stands = stands })

    by_only : (x : Text) (b : ℕ) → (location_of m x ≡ Some b) ⊎ IsLabel (behind a l) lines x b →
        (location_of labels x ≡ Some b) ⊎ IsLabel a (l ∷ lines) x b
    by_only x b (inr h) = inr (record {
      line = suc h.line;
      exists = omega (arith, h.exists);
      has = h.has;
      stands = h.stands;
    })
    by_only x b (inl h) = by_here (here.to x b h)
      where
        by_here : (location_of labels x ≡ Some b) ⊎ (Contains (head_labels ps) x × (b ≡ a)) →
            (location_of labels x ≡ Some b) ⊎ IsLabel a (l ∷ lines) x b
        by_here (inl h) = inl h
        by_here (inr c) = inr (record {
          line = 0;
          exists = omega arith;
          has = subst (λ (xs : List Text). Contains xs x) (sym heads) c.0;
          stands = c.1;
        })

-- the labels after a statement are those before it
kept_labels : (p q : Placed) (t : Option (ℕ × ℕ)) → placed_by p t ≡ Ok q → q.labels ≡ p.labels
unfolding placed_by
kept_labels p q None h = let same : p ≡ q = cc in ap (λ (z : Placed). z.labels) (sym same)
kept_labels p q (Some t) h =
    let taken = inverted (take_addresses p.taken (addresses p.location t.0)) _ q h in
    let after : Placed = record { location = t.1; labels = p.labels; taken = taken.0 } in
    let same : after ≡ q = cc in
    ap (λ (z : Placed). z.labels) (sym same)

-- the location after a line
after_line : (p q : Placed) (t : Option (ℕ × ℕ)) (s : Option Statement) (l : Text) →
    statement_in l ≡ Ok s →
    option_map (λ s. (size_of s, location_after p.location s)) s ≡ t → placed_by p t ≡ Ok q →
    q.location ≡ behind p.location l
unfolding placed_by
after_line p q t None l says e h =
    let some : placed_by p None ≡ Ok q =
    subst (λ (o : Option (ℕ × ℕ)). placed_by p o ≡ Ok q) (sym e) h in
    let same : p ≡ q = cc in
    subst (λ (z : Placed). z.location ≡ behind p.location l) same (rw says refl)
after_line p q t (Some s) l says e h =
    let some : placed_by p (Some (size_of s, location_after p.location s)) ≡ Ok q =
    subst (λ (o : Option (ℕ × ℕ)). placed_by p o ≡ Ok q) (sym e) h in
    let taken = inverted (take_addresses p.taken (addresses p.location (size_of s))) _ q some in
    let after : Placed = record {
      location = location_after p.location s;
      labels = p.labels;
      taken = taken.0;
    } in
    let same : after ≡ q = cc in
    subst (λ (z : Placed). z.location ≡ behind p.location l) same (rw says refl)

label_line : (p q : Placed) (l : Text) (lines : List Text) (more : Labels) → first_line p l ≡ Ok q →
    LabelPass q.location lines q.labels more → LabelPass p.location (l ∷ lines) p.labels more
unfolding first_line placed_size
label_line p q l lines more h later =
    let ps = inverted (pieces_of l) _ q h in
    let ls = inverted (with_labels p.location p.labels ps.0) _ q ps.2 in
    let size = inverted (placed_size p.location ls.0.1) _ q ls.2 in
    let s = inverted (statement_of ls.0.1) _ size.0 size.1 in
    let heads = labelled p.location p.labels ls.0.0 ps.0 ls.0.1 ls.1 in
    let p1 : Placed = record p { labels = ls.0.0 } in
    let o1 : Option (ℕ × ℕ) = option_map (λ s. (size_of s, location_after p.location s)) s.0 in
    let r1 : Result (Option (ℕ × ℕ)) AsmNo = Ok o1 in
    let says : statement_in l ≡ Ok s.0 =
    chained (pieces_of l) (λ xs. statement_of (after_labels xs)) ps.0 s.0 ps.1
    (subst (λ (xs : List Piece). statement_of xs ≡ Ok s.0) heads.rest_is s.1) in
    let stands : q.location ≡ behind p.location l =
    after_line p1 q size.0 s.0 l says (same_ok r1 o1 size.0 refl s.2) size.2 in
    label_more p.location l lines ps.0 ls.0.1 p.labels ls.0.0 more ps.1 heads
    (subst (λ (ms : Labels). LabelPass (behind p.location l) lines ms more)
    (kept_labels p1 q size.0 size.2)
    (subst (λ b. LabelPass b lines q.labels more) stands later))

pub label_pass : (n : ℕ) (p q : Placed) (lines : List Text) → first_pass n p lines ≡ Ok q →
    LabelPass p.location lines p.labels q.labels
unfolding first_pass
label_pass n p q [] h =
    let same : p ≡ q = cc in
    subst (λ (z : Placed). LabelPass p.location [] p.labels z.labels) same
    (no_label_lines p.location p.labels)
label_pass n p q (l ∷ lines) h =
    let p1 = inverted (in_line n (first_line p l)) _ q h in
    label_line p p1.0 l lines q.labels (in_line_ok n (first_line p l) p1.0 p1.1)
    (label_pass (n + 1) p1.0 q lines p1.2)
