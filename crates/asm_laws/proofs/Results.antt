-- What an accepted result says of its steps.
use Rattle.std.proofs.Common.{◌≡◌, ℕ, Bool, true, false, Result, Ok, Err, refl}
use Rattle.fp_asm.specs.Faults.{next, holds, in_line}
use Rattle.fp_asm.specs.declared.refusal.AsmNo.{AsmNo}

pub inverted : {A B E : Type 0} (r : Result A E) (f : A → Result B E) (b : B) →
    next r f ≡ Ok b → (a : A) × (r ≡ Ok a) × (f a ≡ Ok b)
inverted (Ok a) f b h = (a, refl, h)
inverted (Err e) f b h = absurd (cc)

pub held : {A E : Type 0} (t : Bool) (e : E) (r : Result A E) (a : A) →
    holds t e r ≡ Ok a → (t ≡ true) × (r ≡ Ok a)
held true e r a h = (refl, h)
held false e r a h = absurd (cc)

pub in_line_ok : {A : Type 0} (n : ℕ) (r : Result A AsmNo) (a : A) → in_line n r ≡ Ok a → r ≡ Ok a
in_line_ok n (Ok x) a h = let same : x ≡ a = cc in cc
in_line_ok n (Err c) a h = absurd (cc)

pub same_ok : {A E : Type 0} (r : Result A E) (x y : A) → r ≡ Ok x → r ≡ Ok y → x ≡ y
same_ok r x y h k = cc

pub chained : {A B E : Type 0} (r : Result A E) (f : A → Result B E) (a : A) (b : B) →
    r ≡ Ok a → f a ≡ Ok b → next r f ≡ Ok b
chained r f a b h k = rw h k
