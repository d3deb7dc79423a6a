-- The bytes that a sink or a writer has taken, piece by piece.
use Rattle.std.proofs.Common.{◌≡◌, ℕ, ◌+◌, true, false, true≢false, Result, Ok}
use Rattle.std.proofs.Common.{Err, is_ok, OnOk, OnErr, List, [], ◌++◌, length, take}
use Rattle.std.proofs.Common.{Option, Some, None, arith, ap, sym, ◌∙◌, append_assoc}
use Rattle.std.proofs.lemmas.List.{append-nil, length-append, take-append-le}
use Rattle.std.proofs.Math.Seq.{take-append-add}
use Rattle.std.specs.Io.KnownBytes.{Appends}
use Rattle.fp_io.specs.Content.{AppendsPrefix}
use Rattle.fp_io.specs.Gathered.{followed}

pub appends_nothing : (taken : Option (List ℕ)) → Appends taken taken []
appends_nothing None = tt
appends_nothing (Some xs) = sym (append-nil xs)

pub appends_more : (before between after : Option (List ℕ)) (xs ys : List ℕ) →
    Appends before between xs → Appends between after ys → Appends before after (xs ++ ys)
appends_more None between after xs ys first second = tt
appends_more (Some contents) None after xs ys first second = absurd first
appends_more (Some contents) (Some more) None xs ys first second = absurd second
appends_more (Some contents) (Some more) (Some most) xs ys first second =
    second ∙ ap (λ zs. zs ++ ys) first ∙ append_assoc contents xs ys

-- a prefix of a piece, after another piece, is a prefix of a whole that begins with both
pub appends_prefix : (before between after : Option (List ℕ)) (xs ys rest whole : List ℕ) →
    whole ≡ (xs ++ ys) ++ rest → Appends before between xs → AppendsPrefix between after ys →
    AppendsPrefix before after whole
appends_prefix None between after xs ys rest whole is first second = tt
appends_prefix (Some contents) None after xs ys rest whole is first second = absurd first
appends_prefix (Some contents) (Some more) None xs ys rest whole is first second = absurd second
appends_prefix (Some contents) (Some more) (Some most) xs ys rest whole is first (
  n,
  within,
  taken,
) =
    let is_right : whole ≡ xs ++ (ys ++ rest) = is ∙ append_assoc xs ys rest in
    let long : length whole ≡ length xs + (length ys + length rest) = ap length is_right
    ∙ length-append xs (ys ++ rest) ∙ ap (λ k. length xs + k) (length-append ys rest) in
    let prefix : take (length xs + n) whole ≡ xs ++ take n ys =
    ap (λ zs. take (length xs + n) zs) is_right ∙ take-append-add xs (ys ++ rest) n
    ∙ ap (λ zs. xs ++ zs) (take-append-le n ys rest within) in (
      length xs + n,
      omega (arith, long, within),
      taken ∙ ap (λ zs. zs ++ take n ys) first ∙ append_assoc contents xs (take n ys)
          ∙ ap (λ zs. contents ++ zs) (sym prefix),
    )

-- a piece after another piece
pub prefix_after : (before between after : Option (List ℕ)) (xs ys : List ℕ) →
    Appends before between xs → AppendsPrefix between after ys → AppendsPrefix before
    after (xs ++ ys)
prefix_after before between after xs ys first second =
    appends_prefix before between after xs ys [] (xs ++ ys)
    (sym (append-nil (xs ++ ys))) first second

-- a prefix of a piece is a prefix of that piece and another
pub prefix_of_more : (before after : Option (List ℕ)) (xs ys : List ℕ) →
    AppendsPrefix before after xs → AppendsPrefix before after (xs ++ ys)
prefix_of_more None after xs ys prefix = tt
prefix_of_more (Some contents) None xs ys prefix = absurd prefix
prefix_of_more (Some contents) (Some more) xs ys (n, within, taken) = (
  n,
  omega (arith, length-append xs ys, within),
  taken ∙ ap (λ zs. contents ++ zs) (sym (take-append-le n xs ys within)),
)

-- gathered bytes and others after them, all of which were written
pub written_after : (before between after : Option (List ℕ)) (xs ys : List ℕ) →
    Appends before between xs → Appends between after ys →
    Appends (followed before xs) (followed after []) ys
written_after None between after xs ys first second = tt
written_after (Some contents) None after xs ys first second = absurd first
written_after (Some contents) (Some more) None xs ys first second = absurd second
written_after (Some contents) (Some more) (Some most) xs ys first second =
    append-nil most ∙ second ∙ ap (λ zs. zs ++ ys) first

-- bytes that are gathered after others
pub gathered_after : (contents : Option (List ℕ)) (xs ys : List ℕ) →
    Appends (followed contents xs) (followed contents (xs ++ ys)) ys
gathered_after None xs ys = tt
gathered_after (Some contents) xs ys = sym (append_assoc contents xs ys)

-- a property of a success holds of its value
pub at_value : {T E P : Type 0} (r : Result T E) → true ≡ is_ok r → OnOk r P → P
at_value (Ok x) is holds = holds
at_value (Err e) is holds = absurd (true≢false is)

-- a property of a failure holds of its error
pub at_error : {T E P : Type 0} (r : Result T E) → false ≡ is_ok r → OnErr r P → P
at_error (Ok x) is holds = absurd (true≢false (sym is))
at_error (Err e) is holds = holds
