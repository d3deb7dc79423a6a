-- The parts of a list between separators.
use Rattle.std.specs.Prelude.{Bool, List, [], ◌∷◌, ◌++◌, if◌then◌else◌}

-- The items between the elements that pass a test; `item` precedes the list. `ended` maps each item
-- that a separator ends, and `last` maps the last one.
unfoldable pub between_from : {A B : Type 0} → (A → Bool) → (List A → B) → (List A → B) → List A →
    List A → List B
between_from p ended last item [] = last item ∷ []
between_from p ended last item (x ∷ xs) =
    if p x then ended item ∷ between_from p ended last [] xs
    else between_from p ended last (item ++ x ∷ []) xs

-- the same for a list without a preceding item
abbrev pub between : {A B : Type 0} → (A → Bool) → (List A → B) → (List A → B) → List A → List B
between p ended last xs = between_from p ended last [] xs
