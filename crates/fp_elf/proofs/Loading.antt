-- The memory after one more load is placed.
use Rattle.std.proofs.Common.{◌≡◌, ℕ, zero, suc, ◌+◌, ◌-◌, ◌*◌, ◌≤◌, ◌<◌, ◌⊎◌, inl, inr}
use Rattle.std.proofs.Common.{Bool, true, false, ◌&&◌, List, [], ◌∷◌, ◌++◌, length, map, take}
use Rattle.std.proofs.Common.{drop, get_or, refl, ap, ap₂, sym, ◌∙◌, subst, arith, add-one}
use Rattle.std.specs.Prelude.{◌||◌, nat_le, nat_lt, min, replicate, if◌then◌else◌, slice_index_or}
use Rattle.std.specs.List.{list_any, range_with_len}
use Rattle.std.proofs.lemmas.Bool.Decides.{nat_tests}
use Rattle.std.proofs.lemmas.Bool.{cases_lt}
use Rattle.std.proofs.lemmas.List.{drop_more, get_or-drop, get_or-take}
use Rattle.std.proofs.lemmas.List.{get_or_past, get_or-replicate, length-take}
use Rattle.std.proofs.Math.Nat.{min-le_left}
use Rattle.fp_elf.specs.declared.headers.ProgramHeader.{ProgramHeader}
use Rattle.fp_elf.specs.Loads.{is_inside, meets}
use Rattle.fp_elf.specs.declared.runs.Run.{Run}
use Rattle.fp_elf.specs.Elf.{before_runs, byte_of, runs_from}
use Rattle.fp_elf.specs.Memory.{address_of, covers, Fits, Holds, is_taken, meets_any, index_of}
use Rattle.fp_elf.proofs.Covered.{taken-meets, taken-more, byte-more}

-- the indices of a run of addresses in one scratchpad follow one another
pub covered-index : (a n k : ℕ) → is_inside a n ≡ true → 0 < n → k < 131072 →
    covers a n (address_of k) ≡ (nat_le (index_of a) k && nat_lt k (index_of a + n))
covered-index a n k inside some low = grind (arith, nat_tests)

pub placed-inside : (a n : ℕ) → is_inside a n ≡ true → 0 < n → index_of a + n ≤ 131072
placed-inside a n inside some = grind (arith, nat_tests)

pub address-step : (a n j : ℕ) → is_inside a n ≡ true → j < n → address_of (index_of a + j) ≡ a + j
address-step a n j inside low = grind (arith, nat_tests)

-- a test of each element from an index on
any-by : (P : ℕ → Bool) (xs : List Bool) (n index a : ℕ) → index + n ≤ length xs →
    ((j : ℕ) → j < n → get_or xs (index + j) false ≡ P (a + j)) →
    list_any (λ taken. taken) (take n (drop index xs)) ≡ list_any P (range_with_len a n)
any-by P xs zero index a inside same = refl
any-by P xs (suc n) index a inside same =
    let here : index < length xs = omega arith in
    let rest : index + 1 + n ≤ length xs = omega arith in
    let first : get_or xs index false ≡ P a =
    let (e, d) : (index + 0 ≡ index) × (a + 0 ≡ a) = (omega arith, omega arith) in
    subst (λ i. get_or xs i false ≡ P a) e
    (subst (λ i. get_or xs (index + 0) false ≡ P i) d (same 0 (omega arith))) in
    ap (λ ys. list_any (λ taken. taken) (take (suc n) ys)) (drop_more xs index false here)
    ∙ ap₂ (λ (x y : Bool). x || y) first (any-by P xs n (index + 1) (a + 1) rest (λ j l.
    (let (e, d) : (index + suc j ≡ index + 1 + j)
    × (a + suc j ≡ a + 1 + j) = (omega arith, omega arith) in
    let low : suc j < suc n = omega arith in
    subst (λ i. get_or xs i false ≡ P (a + 1 + j)) e
    (subst (λ i. get_or xs (index + suc j) false ≡ P i) d (same (suc j) low)))))

-- the marks of taken bytes show whether a load overlaps those before it
pub any-meets : (file : List ℕ) (loads : List ProgramHeader) (taken : List Bool)
    (bytes : List ℕ) (a n : ℕ) → Holds file loads taken bytes →
    length taken ≡ 131072 → is_inside a n ≡ true → 0 < n →
    list_any (λ taken. taken) (take n (drop (index_of a) taken))
    ≡ list_any (λ q. meets a n q.vaddr q.memsz) loads
any-meets file loads taken bytes a n h long inside some =
    let within : index_of a + n ≤ 131072 = placed-inside a n inside some in
    let fits : index_of a + n ≤ length taken = omega (arith, within, long) in
    any-by (is_taken loads) taken n (index_of a) a fits
    (λ j l. (let low : index_of a + j < 131072 = omega (arith, within, l) in
    h.taken_is (index_of a + j) low ∙ ap (is_taken loads) (address-step a n j inside l)))
    ∙ taken-meets a n loads

-- each byte of the range is free, if none is marked
none-taken : (P : ℕ → Bool) (n a j : ℕ) → list_any P (range_with_len a n) ≡ false → j < n →
    P (a + j) ≡ false
none-taken P zero a j none l = absurd (omega arith)
none-taken P (suc n) a zero none l = let e : a + 0 ≡ a = omega arith in rw e (first (P a) none)
  where
    first : (b : Bool) → (b || list_any P (range_with_len (a + 1) n)) ≡ false → b ≡ false
    first true h = cc
    first false h = refl
none-taken P (suc n) a (suc j) none l =
    let e : a + suc j ≡ a + 1 + j = omega arith in
    let low : j < n = omega arith in
    rw e (none-taken P n (a + 1) j (rest (P a) none) low)
  where
    rest : (b : Bool) → (b || list_any P (range_with_len (a + 1) n)) ≡ false →
        list_any P (range_with_len (a + 1) n) ≡ false
    rest true h = cc
    rest false h = h

-- a load without bytes at an address leaves the byte there
byte-other : (file : List ℕ) (loads : List ProgramHeader) (p : ProgramHeader) (x : ℕ) →
    (nat_le p.vaddr x && nat_lt x (p.vaddr + p.filesz)) ≡ false →
    byte_of file (loads ++ p ∷ []) x ≡ byte_of file loads x
byte-other file [] p x out = rw out refl
byte-other file (q ∷ loads) p x out =
    ap (λ y. if nat_le q.vaddr x && nat_lt x (q.vaddr + q.filesz)
    then slice_index_or file (q.offset + (x - q.vaddr)) 0
    else y) (byte-other file loads p x out)

least : (a b c : ℕ) → a ≤ c → min a b ≤ c
least a b c l = let m : min a b ≤ a = min-le_left a b in omega (arith, m, l)

-- the bytes of a load: those of the file, then 0
source-byte : (file : List ℕ) (from n j : ℕ) →
    get_or (take n (drop from file)) j 0 ≡ (if nat_lt j n then get_or file (from + j) 0 else 0)
source-byte file from n j = go (cases_lt j n)
  where
    go : (j < n) ⊎ (n ≤ j) →
        get_or (take n (drop from file)) j 0 ≡ (if nat_lt j n then get_or file (from + j) 0 else 0)
    go (inl l) =
        let t : nat_lt j n ≡ true = grind (arith, nat_tests) in
        rw t (get_or-take n (drop from file) j 0 l ∙ get_or-drop from file j 0)
    go (inr l) =
        let t : nat_lt j n ≡ false = grind (arith, nat_tests) in
        let short : length (take n (drop from file)) ≤ j = subst (λ m. m ≤ j)
        (sym (length-take n (drop from file))) (least n (length (drop from file)) j l) in
        rw t (get_or_past (take n (drop from file)) j 0 short)

fits-more : (loads : List ProgramHeader) (p : ProgramHeader) → Fits loads → p.filesz ≤ p.memsz →
    Fits (loads ++ p ∷ [])
fits-more [] p fits small = (small, tt)
fits-more (q ∷ loads) p fits small = (fits.0, fits-more loads p fits.1 small)

-- a load without bytes overlaps none and changes no memory
pub empty-meets : (loads : List ProgramHeader) (p : ProgramHeader) → p.memsz ≡ 0 →
    meets_any loads p ≡ false
empty-meets [] p none = refl
empty-meets (q ∷ loads) p none =
    let first : meets p.vaddr p.memsz q.vaddr q.memsz ≡ false = grind (arith, nat_tests) in
    rw first (empty-meets loads p none)

pub placed-empty : (file : List ℕ) (loads : List ProgramHeader) (p : ProgramHeader)
    (taken : List Bool) (bytes : List ℕ) → Holds file loads taken bytes → p.filesz ≤ p.memsz →
    p.memsz ≡ 0 → Holds file (loads ++ p ∷ []) taken bytes
placed-empty file loads p taken bytes h small none = record {
  taken_is =
      λ k low. h.taken_is k low ∙ none-more (is_taken loads (address_of k))
      ∙ ap (λ b. is_taken loads (address_of k) || b) (sym (out-memory (address_of k)))
      ∙ sym (taken-more loads p (address_of k));
  byte_is =
      λ k low.
      h.byte_is k low ∙ sym (byte-other file loads p (address_of k) (out-file (address_of k)));
  fits = fits-more loads p h.fits small;
}
  where
    none-more : (b : Bool) → b ≡ (b || false)
    none-more true = refl
    none-more false = refl

    out-memory : (x : ℕ) → covers p.vaddr p.memsz x ≡ false
    out-memory x = grind (arith, nat_tests)

    out-file : (x : ℕ) → (nat_le p.vaddr x && nat_lt x (p.vaddr + p.filesz)) ≡ false
    out-file x = grind (arith, nat_tests)

-- memory after a load that overlaps none before it
pub placed : (file : List ℕ) (loads : List ProgramHeader) (p : ProgramHeader)
    (taken taken' : List Bool) (bytes bytes' source : List ℕ) → Holds file loads taken bytes →
    p.filesz ≤ p.memsz → is_inside p.vaddr p.memsz ≡ true → 0 < p.memsz →
    meets_any loads p ≡ false → source ≡ take p.filesz (drop p.offset file) →
    ((k : ℕ) → get_or taken' k false ≡ (if nat_le (index_of p.vaddr) k
    && nat_lt k (index_of p.vaddr + p.memsz) then true
    else get_or taken k false)) →
    ((k : ℕ) →
    get_or bytes' k 0 ≡ (if nat_le (index_of p.vaddr) k && nat_lt k (index_of p.vaddr + p.memsz)
    then get_or source (k - index_of p.vaddr) 0
    else get_or bytes k 0)) →
    Holds file (loads ++ p ∷ []) taken' bytes'
placed file loads p taken taken' bytes bytes' source h small inside some free is ts bs = record {
  taken_is = λ k low. ts k ∙ take-case k low (nat_le P k && nat_lt k (P + p.memsz)) refl;
  byte_is = λ k low. bs k ∙ byte-case k low (nat_le P k && nat_lt k (P + p.memsz)) refl;
  fits = fits-more loads p h.fits small;
}
  where
    P : ℕ
    P = index_of p.vaddr

    here : (k : ℕ) → k < 131072 →
        covers p.vaddr p.memsz (address_of k) ≡ (nat_le P k && nat_lt k (P + p.memsz))
    here k low = covered-index p.vaddr p.memsz k inside some low

    or-true : (b : Bool) → true ≡ (b || true)
    or-true true = refl
    or-true false = refl

    or-false : (b : Bool) → b ≡ (b || false)
    or-false true = refl
    or-false false = refl

    take-case : (k : ℕ) → k < 131072 → (r : Bool) → (nat_le P k && nat_lt k (P + p.memsz)) ≡ r →
        (if r then true else get_or taken k false) ≡ is_taken (loads ++ p ∷ []) (address_of k)
    take-case k low true e =
        or-true (is_taken loads (address_of k))
        ∙ ap (λ b. is_taken loads (address_of k) || b) (sym (here k low ∙ e))
        ∙ sym (taken-more loads p (address_of k))
    take-case k low false e =
        h.taken_is k low ∙ or-false (is_taken loads (address_of k))
        ∙ ap (λ b. is_taken loads (address_of k) || b) (sym (here k low ∙ e))
        ∙ sym (taken-more loads p (address_of k))

    in-file : (x j : ℕ) → x ≡ p.vaddr + j →
        (if nat_lt j p.filesz then get_or file (p.offset + j) 0 else 0) ≡ byte_of file (p ∷ []) x
    in-file x j at =
        let t : (nat_le p.vaddr x && nat_lt x (p.vaddr + p.filesz)) ≡ nat_lt j p.filesz =
        grind (arith, nat_tests) in
        let d : x - p.vaddr ≡ j = omega arith in
        rw (t, d) refl

    out-file : (x : ℕ) → covers p.vaddr p.memsz x ≡ false →
        (nat_le p.vaddr x && nat_lt x (p.vaddr + p.filesz)) ≡ false
    out-file x out = grind (arith, nat_tests)

    byte-case : (k : ℕ) → k < 131072 → (r : Bool) → (nat_le P k && nat_lt k (P + p.memsz)) ≡ r →
        (if r then get_or source (k - P) 0 else get_or bytes k 0)
        ≡ byte_of file (loads ++ p ∷ []) (address_of k)
    byte-case k low true e =
        let j : ℕ = k - P in
        let within : (P ≤ k) × (k < P + p.memsz) =
        (grind (arith, nat_tests), grind (arith, nat_tests)) in
        let step : j < p.memsz = omega (arith, within.0, within.1) in
        let sum : P + j ≡ k = omega (arith, within.0) in
        let at : address_of k ≡ p.vaddr + j =
        ap address_of (sym sum) ∙ address-step p.vaddr p.memsz j inside step in
        let none : is_taken loads (address_of k) ≡ false = ap (is_taken loads) at ∙ none-taken
        (is_taken loads) p.memsz p.vaddr j (taken-meets p.vaddr p.memsz loads ∙ free) step in
        ap (λ xs. get_or xs j 0) is ∙ source-byte file p.offset p.filesz j
        ∙ in-file (address_of k) j at ∙ sym (byte-more file loads p (address_of k) none h.fits)
    byte-case k low false e =
        h.byte_is k low
        ∙ sym (byte-other file loads p (address_of k) (out-file (address_of k) (here k low ∙ e)))

-- before any load
pub holds-none : (file : List ℕ) (taken : List Bool) (bytes : List ℕ) →
    taken ≡ replicate 131072 false → bytes ≡ replicate 131072 0 → Holds file [] taken bytes
holds-none file taken bytes t b = record {
  taken_is = λ k low. ap (λ xs. get_or xs k false) t ∙ get_or-replicate 131072 k false false low;
  byte_is = λ k low. ap (λ xs. get_or xs k 0) b ∙ get_or-replicate 131072 k 0 0 low;
  fits = tt;
}

-- the same, by the load's index
pub placed-at : (file : List ℕ) (loads : List ProgramHeader) (p : ProgramHeader)
    (taken taken' : List Bool) (bytes bytes' source : List ℕ) (index : ℕ) →
    index ≡ index_of p.vaddr → Holds file loads taken bytes →
    p.filesz ≤ p.memsz → is_inside p.vaddr p.memsz ≡ true → 0 < p.memsz →
    meets_any loads p ≡ false → source ≡ take p.filesz (drop p.offset file) →
    ((k : ℕ) → get_or taken' k false
    ≡ (if nat_le index k && nat_lt k (index + p.memsz) then true else get_or taken k false)) →
    ((k : ℕ) → get_or bytes' k 0 ≡ (if nat_le index k && nat_lt k (index + p.memsz)
    then get_or source (k - index) 0
    else get_or bytes k 0)) →
    Holds file (loads ++ p ∷ []) taken' bytes'
placed-at file loads p taken taken' bytes bytes' source index at h small inside some free is ts bs =
    placed file loads p taken taken' bytes bytes' source h small inside some free is
    (subst (λ P. (k : ℕ) → get_or taken' k false
    ≡ (if nat_le P k && nat_lt k (P + p.memsz) then true else get_or taken k false)) at ts)
    (subst (λ P. (k : ℕ) → get_or bytes' k 0 ≡ (if nat_le P k && nat_lt k (P + p.memsz)
    then get_or source (k - P) 0
    else get_or bytes k 0)) at bs)

-- the marks at the load's indices show whether it overlaps those before it
pub told-meets : (file : List ℕ) (loads : List ProgramHeader) (p : ProgramHeader)
    (taken : List Bool) (bytes : List ℕ) (index : ℕ) (any : Bool) → index ≡ index_of p.vaddr →
    any ≡ list_any (λ taken. taken) (take p.memsz (drop index taken)) →
    Holds file loads taken bytes → length taken ≡ 131072 → is_inside p.vaddr p.memsz ≡ true →
    0 < p.memsz → meets_any loads p ≡ any
told-meets file loads p taken bytes index any at is h long inside some =
    sym (any-meets file loads taken bytes p.vaddr p.memsz h long inside some)
    ∙ ap (λ P. list_any (λ taken. taken) (take p.memsz (drop P taken))) (sym at) ∙ sym is

-- the marks show whether a load has a byte of a word
pub word-taken : (file : List ℕ) (loads : List ProgramHeader) (taken : List Bool) (bytes : List ℕ)
    (a : ℕ) → Holds file loads taken bytes → length taken ≡ 131072 → is_inside a 4 ≡ true →
    list_any (λ taken. taken) (take 4 (drop (index_of a) taken))
    ≡ list_any (λ q. meets a 4 q.vaddr q.memsz) loads
word-taken file loads taken bytes a h long inside =
    any-meets file loads taken bytes a 4 h long inside (omega arith)

-- the runs from a word on, by those after it
pub runs-step : (test : ℕ → Bool) (base step : ℕ) (now : List Run) →
    step < 16384 → now ≡ (if test (base + 4 * (16383 - step))
    then before_runs (base + 4 * (16383 - step)) (runs_from test (base + 4 * (16384 - step)) step)
    else runs_from test (base + 4 * (16384 - step)) step) →
    now ≡ runs_from test (base + 4 * (16384 - (step + 1))) (step + 1)
unfolding runs_from
runs-step test base step now low is =
    let at : base + 4 * (16384 - (step + 1)) ≡ base + 4 * (16383 - step) = omega arith in
    let after : base + 4 * (16383 - step) + 4 ≡ base + 4 * (16384 - step) = omega arith in
    rw (at, add-one step, after) is

-- the bytes from an index on
bytes-by : (f : ℕ → ℕ) (xs : List ℕ) (n index a : ℕ) → index + n ≤ length xs →
    ((j : ℕ) → j < n → get_or xs (index + j) 0 ≡ f (a + j)) →
    take n (drop index xs) ≡ map f (range_with_len a n)
bytes-by f xs zero index a inside same = refl
bytes-by f xs (suc n) index a inside same =
    let here : index < length xs = omega arith in
    let rest : index + 1 + n ≤ length xs = omega arith in
    let first : get_or xs index 0 ≡ f a =
    let (e, d) : (index + 0 ≡ index) × (a + 0 ≡ a) = (omega arith, omega arith) in
    subst (λ i. get_or xs i 0 ≡ f a) e
    (subst (λ i. get_or xs (index + 0) 0 ≡ f i) d (same 0 (omega arith))) in
    ap (λ ys. take (suc n) ys) (drop_more xs index 0 here)
    ∙ ap₂ (λ (x : ℕ) (ys : List ℕ). x ∷ ys) first (bytes-by f xs n (index + 1) (a + 1) rest (λ j l.
    (let (e, d) : (index + suc j ≡ index + 1 + j)
    × (a + suc j ≡ a + 1 + j) = (omega arith, omega arith) in
    let low : suc j < suc n = omega arith in
    subst (λ i. get_or xs i 0 ≡ f (a + 1 + j)) e
    (subst (λ i. get_or xs (index + suc j) 0 ≡ f i) d (same (suc j) low)))))

-- the bytes of a run
pub run-bytes : (file : List ℕ) (loads : List ProgramHeader) (taken : List Bool) (bytes : List ℕ)
    (a n : ℕ) → Holds file loads taken bytes → length bytes ≡ 131072 → is_inside a n ≡ true →
    0 < n → take n (drop (index_of a) bytes) ≡ map (byte_of file loads) (range_with_len a n)
run-bytes file loads taken bytes a n h long inside some =
    let within : index_of a + n ≤ 131072 = placed-inside a n inside some in
    bytes-by (byte_of file loads) bytes n (index_of a) a (omega (arith, within, long))
    (λ j l. (let low : index_of a + j < 131072 = omega (arith, within, l) in
    h.byte_is (index_of a + j) low ∙ ap (byte_of file loads) (address-step a n j inside l)))
