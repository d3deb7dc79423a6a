-- The elements of a list of a document.
use Rattle.std.proofs.Common.{true, true≢false, ◌⊎◌, inl, inr, sym, ◌∙◌, ◌≡◌, ◌≤◌}
use Rattle.std.proofs.Common.{ℕ, Option, Some, None, Bool, false, not, ◌||◌, List}
use Rattle.std.proofs.Common.{[], ◌∷◌, map, String, Global, string_bytes, refl, ap}
use Rattle.std.specs.List.{list_any}
use Rattle.std.specs.Str.{bytes_eq, is_utf8, IsUtf8}
use Rattle.std.proofs.lemmas.Str.{IsUtf8-from_is_utf8, is_utf8-from_IsUtf8}
use Rattle.std.specs.Map.{keys_of}
use Rattle.toml.specs.declared.value.Value.{Value}
use Rattle.toml.specs.View.{members_view}
use Rattle.fp_setup.specs.FaultOrder.{has_other_key}
use Rattle.toml.specs.Data.{Data}
use Rattle.toml.specs.View.{items_of}
use Rattle.fp_setup.specs.Values.{values}

pub values_of : (ds : List Data) → values (items_of ds) ≡ ds
values_of [] = refl
values_of (d ∷ ds) = ap (λ es. d ∷ es) (values_of ds)

-- one of these keys is outside the list
abbrev pub any_other : List (List ℕ) → List (String Global) → Bool
any_other keys [] = false
any_other keys (k ∷ ks) =
    not (list_any (λ known. bytes_eq known (string_bytes k)) keys) || any_other keys ks

pub other_keys : (keys : List (List ℕ)) (es : List (String Global × Value)) →
    any_other keys (keys_of es) ≡ has_other_key keys (members_view es)
other_keys keys [] = refl
other_keys keys (e ∷ es) =
    ap (λ b. not (list_any (λ known. bytes_eq known (string_bytes e.0)) keys) || b)
    (other_keys keys es)

pub list_any_map : {X Y : Type 0} (p : Y → Bool) (f : X → Y) (xs : List X) →
    list_any (λ x. p (f x)) xs ≡ list_any p (map f xs)
list_any_map p f [] = refl
list_any_map p f (x ∷ xs) = ap (λ b. p (f x) || b) (list_any_map p f xs)

-- the cycle was reached by the one before
abbrev pub IsReached : Option ℕ → ℕ → Type 0
IsReached None at = ⊥
IsReached (Some before) at = at ≤ before

-- the test of UTF-8 decides `IsUtf8`
pub utf8_test : (bs : List ℕ) →
    ((is_utf8 bs ≡ true) × IsUtf8 bs) ⊎ ((is_utf8 bs ≡ false) × (¬ (IsUtf8 bs)))
utf8_test bs = go (is_utf8 bs) refl
  where
    go : (b : Bool) → is_utf8 bs ≡ b → ((b ≡ true) × IsUtf8 bs) ⊎ ((b ≡ false) × (¬ (IsUtf8 bs)))
    go true e = inl (refl, IsUtf8-from_is_utf8 bs e)
    go false e = inr (refl, λ u. true≢false (sym (is_utf8-from_IsUtf8 bs u) ∙ e))
