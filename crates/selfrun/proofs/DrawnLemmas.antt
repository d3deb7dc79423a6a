-- The bytes of the drawn programs, and the image that they make.
use Rattle.std.proofs.Common.{◌≡◌, ℕ, zero, suc, ◌+◌, ◌*◌, ◌<◌, ◌≤◌, List}
use Rattle.std.proofs.Common.{[], ◌∷◌, ◌++◌, length, arith, refl, ap, sym}
use Rattle.std.proofs.Common.{subst, ◌∙◌, add-one, append_assoc, length-append}
use Rattle.std.specs.Prelude.{IsTrue, map, flat_map}
use Rattle.std.specs.List.{range_with_len}
use Rattle.std.proofs.lemmas.List.{append-nil}
use Rattle.std.proofs.lemmas.Grind.{flat_map-append}
use Rattle.std.proofs.lemmas.List.FromFn.{map-range_with_len_more, length-map-range_with_len}
use Rattle.byteorder.specs.Endian.{little_bytes}
use Rattle.rv_decode.specs.Encoding.{encoding_of}
use Rattle.rv_decode.specs.declared.instruction.Ins.{Ins}
use Rattle.fp_image.specs.Rules.{IsImage, Rises, is_placed}
use Rattle.fp_image.specs.declared.parts.Segment.{Segment}
use Rattle.selfrun.specs.Drawn.{next_draw, draw, drawn_ins, drawn_from, first_ins}
use Rattle.selfrun.specs.Drawn.{last_ins, instructions, bytes_of, segment, programs}

pub drawn-next : (first n : ℕ) → draw first (n + 1) ≡ next_draw (draw first n)
unfolding draw
drawn-next first n = rw add-one refl

pub drawn-add : (first a b : ℕ) → draw (draw first a) b ≡ draw first (a + b)
unfolding draw
drawn-add first a zero = ap (draw first) (let e : a ≡ a + zero = omega arith in e)
drawn-add first a (suc b) =
    let e : suc (a + b) ≡ a + suc b = omega arith in
    ap next_draw (drawn-add first a b) ∙ ap (draw first) e

pub bytes_of-append : (xs ys : List Ins) → bytes_of (xs ++ ys) ≡ bytes_of xs ++ bytes_of ys
unfolding bytes_of
bytes_of-append xs ys = flat_map-append (λ i. little_bytes 4 (encoding_of i)) xs ys

-- one more drawn instruction
pub more_drawn : (before bytes : List ℕ) (first n x : ℕ) →
    bytes ≡ before ++ bytes_of (drawn_from first n) → x ≡ draw first n →
    bytes ++ bytes_of (drawn_ins (next_draw x) ∷ []) ≡ before ++ bytes_of (drawn_from first (n + 1))
more_drawn before bytes first n x so_far is =
    let i : Ins = drawn_ins (next_draw x) in
    let this : i ≡ drawn_ins (draw first (n + 1)) =
    ap (λ d. drawn_ins (next_draw d)) is ∙ ap drawn_ins (sym (drawn-next first n)) in
    let more : drawn_from first (n + 1) ≡ drawn_from first n ++ drawn_ins (draw first (n + 1))
    ∷ [] = map-range_with_len_more (λ j. drawn_ins (draw first (j + 1))) 0 n n (omega arith) in
    ap (λ bs. bs ++ bytes_of (i ∷ [])) so_far
    ∙ append_assoc before (bytes_of (drawn_from first n)) (bytes_of (i ∷ []))
    ∙ ap (λ bs. before ++ bs) (sym (bytes_of-append (drawn_from first n) (i ∷ []))
    ∙ ap (λ j. bytes_of (drawn_from first n ++ j ∷ [])) this ∙ ap bytes_of (sym more))

-- the parts of a thread's bytes
pub five_parts : (u l c b : Ins) (xs : List Ins) →
    (((bytes_of (u ∷ []) ++ bytes_of (l ∷ [])) ++ bytes_of xs) ++ bytes_of (c ∷ []))
    ++ bytes_of (b ∷ []) ≡ bytes_of (u ∷ l ∷ (xs ++ (c ∷ b ∷ [])))
five_parts u l c b xs =
    let last : bytes_of (c ∷ b ∷ []) ≡ bytes_of (c ∷ []) ++ bytes_of (b ∷ []) =
    bytes_of-append (c ∷ []) (b ∷ []) in
    let rest : bytes_of (xs ++ (c ∷ b ∷ []))
    ≡ bytes_of xs ++ (bytes_of (c ∷ []) ++ bytes_of (b ∷ [])) =
    bytes_of-append xs (c ∷ b ∷ []) ∙ ap (λ bs. bytes_of xs ++ bs) last in
    let low : bytes_of (l ∷ (xs ++ (c ∷ b ∷ [])))
    ≡ bytes_of (l ∷ []) ++ (bytes_of xs ++ (bytes_of (c ∷ []) ++ bytes_of (b ∷ []))) =
    bytes_of-append (l ∷ []) (xs ++ (c ∷ b ∷ [])) ∙ ap (λ bs. bytes_of (l ∷ []) ++ bs) rest in
    let all : bytes_of (u ∷ l ∷ (xs ++ (c ∷ b ∷ []))) ≡ bytes_of (u ∷ [])
    ++ (bytes_of (l ∷ []) ++ (bytes_of xs ++ (bytes_of (c ∷ []) ++ bytes_of (b ∷ [])))) =
    bytes_of-append (u ∷ []) (l ∷ (xs ++ (c ∷ b ∷ []))) ∙ ap (λ bs. bytes_of (u ∷ []) ++ bs) low in
    simp append_assoc (sym all)

-- the bytes of the threads, one after another
pub thread_parts : (first k : ℕ) (u l c b : Ins) (b0 b1 b2 b3 b4 b5 : List ℕ) →
    u ∷ l ∷ [] ≡ first_ins k → c ∷ b ∷ [] ≡ last_ins → b0 ≡ [] → b1 ≡ b0 ++ bytes_of (u ∷ []) →
    b2 ≡ b1 ++ bytes_of (l ∷ []) → b3 ≡ b2 ++ bytes_of (drawn_from first 124) →
    b4 ≡ b3 ++ bytes_of (c ∷ []) → b5 ≡ b4 ++ bytes_of (b ∷ []) →
    b5 ≡ bytes_of (instructions first k)
thread_parts first k u l c b b0 b1 b2 b3 b4 b5 prefix back e0 e1 e2 e3 e4 e5 =
    let xs : List Ins = drawn_from first 124 in
    let d1 : b1 ≡ bytes_of (u ∷ []) = e1 ∙ ap (λ bs. bs ++ bytes_of (u ∷ [])) e0 in
    let d2 : b2 ≡ bytes_of (u ∷ []) ++ bytes_of (l ∷ []) =
    e2 ∙ ap (λ bs. bs ++ bytes_of (l ∷ [])) d1 in
    let d3 : b3 ≡ (bytes_of (u ∷ []) ++ bytes_of (l ∷ [])) ++ bytes_of xs =
    e3 ∙ ap (λ bs. bs ++ bytes_of xs) d2 in
    let d4 : b4 ≡ ((bytes_of (u ∷ []) ++ bytes_of (l ∷ [])) ++ bytes_of xs) ++ bytes_of (c ∷ []) =
    e4 ∙ ap (λ bs. bs ++ bytes_of (c ∷ [])) d3 in
    e5 ∙ ap (λ bs. bs ++ bytes_of (b ∷ [])) d4 ∙ five_parts u l c b xs
    ∙ ap (λ is. bytes_of (u ∷ l ∷ (xs ++ is))) back
    ∙ ap (λ is. bytes_of (is ++ (xs ++ last_ins))) prefix

length-bytes_of : (xs : List Ins) → length (bytes_of xs) ≡ 4 * length xs
unfolding bytes_of
length-bytes_of [] = refl
length-bytes_of (x ∷ xs) =
    let this : length (little_bytes 4 (encoding_of x)) ≡ 4 = refl in
    omega (
      arith,
      this,
      length-bytes_of xs,
      length-append (little_bytes 4 (encoding_of x))
          (flat_map (λ i. little_bytes 4 (encoding_of i)) xs),
    )

drawn_bytes : (x k : ℕ) → length (bytes_of (instructions x k)) ≡ 512
drawn_bytes x k =
    let n : length (drawn_from x 124) ≡ 124 =
    length-map-range_with_len (λ j. drawn_ins (draw x (j + 1))) 0 124 in
    omega (arith, n, length-bytes_of (instructions x k), length-append (drawn_from x 124) last_ins)

placed : (k : ℕ) → k < 8 → IsTrue (is_placed 65536 (2048 * k) 512)
placed zero _ = refl
placed (suc zero) _ = refl
placed (suc (suc zero)) _ = refl
placed (suc (suc (suc zero))) _ = refl
placed (suc (suc (suc (suc zero)))) _ = refl
placed (suc (suc (suc (suc (suc zero))))) _ = refl
placed (suc (suc (suc (suc (suc (suc zero)))))) _ = refl
placed (suc (suc (suc (suc (suc (suc (suc zero))))))) _ = refl
placed (suc (suc (suc (suc (suc (suc (suc (suc k)))))))) below = absurd (omega arith)

rises : (number a n from : ℕ) → a + n ≤ 8 → from ≤ 2048 * a →
    Rises 65536 from (map (segment number) (range_with_len a n))
rises number a zero from within above = tt
rises number a (suc n) from within above =
    let len : length (bytes_of (instructions (draw number (124 * a)) a)) ≡ 512 =
    drawn_bytes (draw number (124 * a)) a in
    let P : ℕ → Type 0 = λ m. IsTrue (is_placed 65536 (2048 * a) m) in (
      subst P (sym len) (placed a (omega arith)),
      above,
      rises number (a + 1) n (2048 * a + length (bytes_of (instructions (draw number (124 * a)) a)))
          (omega arith) (omega arith),
    )

-- one more segment
pub more_segments : (number k : ℕ) → map (segment number) (range_with_len 0 (k + 1))
    ≡ map (segment number) (range_with_len 0 k) ++ segment number k ∷ []
more_segments number k = map-range_with_len_more (segment number) 0 k k (omega arith)

pub image_rules : (number k : ℕ) → k < 8 →
    IsImage 65536 (map (segment number) (range_with_len 0 k) ++ segment number k ∷ [])
image_rules number k below =
    let P : List Segment → Type 0 = λ xs. IsImage 65536 xs in
    subst P (more_segments number k) (record {
      few = omega (arith, length-map-range_with_len (segment number) 0 (k + 1));
      rising = rises number 0 (k + 1) 0 (omega arith) (omega arith);
    })

-- the image with the segment of thread k
pub one_more : (number k a x : ℕ) (bytes : List ℕ) (image : List Segment) →
    a ≡ k → x ≡ draw number (124 * k) → bytes ≡ bytes_of (instructions x k) →
    image ≡ map (segment number) (range_with_len 0 k) →
    image ++ record { address = 2048 * a; bytes = bytes } ∷ []
    ≡ map (segment number) (range_with_len 0 k) ++ segment number k ∷ []
one_more number k a x bytes image same is holds so_far =
    let Made : ℕ → List ℕ → Segment = λ at bs. record { address = 2048 * at; bytes = bs } in
    let this : Made a bytes ≡ segment number k = ap (λ at. Made at bytes) same
    ∙ ap (Made k) (holds ∙ ap (λ y. bytes_of (instructions y k)) is) in
    ap (λ xs. xs ++ Made a bytes ∷ []) so_far
    ∙ ap (λ (s : Segment). map (segment number) (range_with_len 0 k) ++ s ∷ []) this

pub next_number : (number k x last : ℕ) → x ≡ draw number (124 * k) → last ≡ draw x 124 →
    last ≡ draw number (124 * (k + 1))
next_number number k x last is after =
    let sum : 124 * k + 124 ≡ 124 * (k + 1) = omega arith in
    after ∙ ap (λ y. draw y 124) is ∙ drawn-add number (124 * k) 124 ∙ ap (draw number) sum

pub all_segments : (number k : ℕ) (image : List Segment) → k ≡ 8 →
    image ≡ map (segment number) (range_with_len 0 k) → image ≡ programs number
unfolding programs
all_segments number k image end so_far =
    so_far ∙ ap (λ n. map (segment number) (range_with_len 0 n)) end

pub no_draws : (before : List ℕ) (first : ℕ) → before ≡ before ++ bytes_of (drawn_from first 0)
unfolding bytes_of
no_draws before first = sym (append-nil before)

pub drawn-zero : (first : ℕ) → first ≡ draw first 0
unfolding draw
drawn-zero first = refl
