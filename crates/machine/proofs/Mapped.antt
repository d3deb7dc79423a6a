-- What a function makes of each element of an array of references.
use Rattle.std.proofs.Common.{◌≡◌, ℕ, ◌<◌, List, map, length, sym, ap, ◌∙◌, subst, get_or}
use denote.Param.Members.{Mut, Called}
use Rattle.std.specs.Array.{IsMapOf}
use Rattle.std.proofs.lemmas.List.{ext_get_or, length-map, get_or-map}

pub mapped : {F A B C : Type 0} → (g : Mut F (A × Unit {0}) B) (f : F) (xs : List A) (ys : List B)
    (n : ℕ) (r : A → C) (h : C → B) (d : A) (e : B) (zs : List C) →
    length xs ≡ n → map r xs ≡ zs →
    ((p q : F) (x : A) (y : B) → Called g p (x, tt) y q → y ≡ h (r x)) → IsMapOf g f xs ys n →
    ys ≡ map h zs
mapped g f xs ys n r h d e zs long same each is =
    let few : length ys ≡ length (map h (map r xs)) =
    is.long ∙ sym (length-map (map r xs) h ∙ length-map xs r ∙ long) in
    ext_get_or e ys (map h (map r xs)) few
    (λ i lt. let below : i < n = subst (λ k. i < k) is.long lt in
    let inside : i < length xs = subst (λ k. i < k) (sym long) below in
    let shown : i < length (map r xs) = subst (λ k. i < k) (sym (length-map xs r)) inside in
    let called = is.at i d e below in
    each called.0 called.1 (get_or xs i d) (get_or ys i e) called.2
    ∙ sym (get_or-map h (map r xs) i (r d) e shown ∙ ap h (get_or-map r xs i d (r d) inside)))
    ∙ ap (map h) same
