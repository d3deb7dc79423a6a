-- Requests one after another.
use Rattle.std.proofs.Common.{◌≡◌, ◌++◌, ◌∙◌, List, Option, Some, None, ap, append_assoc}
use Rattle.fp_io.specs.Content.{HasRequested, Request}

pub HasRequested-trans : (a b c : Option (List Request)) (xs ys : List Request) →
    HasRequested a b xs →
    HasRequested b c ys → HasRequested a c (xs ++ ys)
HasRequested-trans None b c xs ys p q = tt
HasRequested-trans (Some x) None c xs ys p q = absurd p
HasRequested-trans (Some x) (Some y) None xs ys p q = absurd q
HasRequested-trans (Some x) (Some y) (Some z) xs ys p q = q ∙ ap (λ l. l ++ ys) p
    ∙ append_assoc x xs ys
