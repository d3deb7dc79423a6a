-- Lemmas on a map with names as keys, seen as the bytes of each name.
use Rattle.std.proofs.Common.{◌≡◌, ℕ, Bool, true, false, cond, List, [], ◌∷◌, map, Option}
use Rattle.std.proofs.Common.{Some, None, option_map, string_bytes, refl, sym, ◌∙◌, ap, ap₂}
use Rattle.std.specs.Prelude.{String, option_copied}
use Rattle.std.specs.Borrow.{Bor}
use Rattle.std.specs.BTreeMap.{BTreeMap, get_by_text, UpdatesBy, is_at}
use Rattle.std.specs.Map.{lookup}
use Rattle.std.specs.Str.{bytes_eq}
use Rattle.std.specs.String.{string_cmp}
use Rattle.std.specs.Ordering.{nat_cmp, eq_by_cmp, is_eq}
use Rattle.std.specs.Cmp.{eq_by_cmp_equiv}
use Rattle.std.specs.Cmp.Lexicographic.{slice_cmp, nat_list_cmp_total}
use Rattle.std.specs.FinMap.{FinMap, get, insert, from_entries, find, get-insert, get-from_entries}
use Rattle.std.specs.FinMap.{same_map, slice_cmp-IsAntisymmetric, nat_cmp-IsAntisymmetric}
use Rattle.std.proofs.lemmas.Map.Text.{btree_map_updates_text, is_eq-slice_cmp}

module _ {Y X : Type 0} (value : X → List ℕ) where
  -- the bytes of each name
  abbrev pub named_by : BTreeMap (String Y) X → FinMap (slice_cmp nat_cmp) (List ℕ)
  named_by m = from_entries (map (λ e. (string_bytes e.0, value e.1)) m.entries)

  find-map : (q : List ℕ) (es : List (String Y × X)) →
      find (slice_cmp nat_cmp) q (map (λ e. (string_bytes e.0, value e.1)) es) ≡ option_map value
      (lookup (is_at (λ (k : String Y). slice_cmp nat_cmp q (string_bytes k))) es)
  find-map q [] = refl
  find-map q (e ∷ es) = one (is_eq (slice_cmp nat_cmp q (string_bytes e.0))) _ _ (find-map q es)
    where
      one : (t : Bool) (a : Option (List ℕ)) (b : Option X) → a ≡ option_map value b →
          cond t (Some (value e.1)) a ≡ option_map value (cond t (Some e.1) b)
      one true a b h = refl
      one false a b h = h

  -- a look-up by a name
  pub get-named_by : (m : BTreeMap (String Y) X) (name : List ℕ) →
      get (named_by m) name ≡ option_map value (get_by_text m name)
  get-named_by m name =
      get-from_entries nat_list_cmp_total (map (λ e. (string_bytes e.0, value e.1)) m.entries) name
      ∙ find-map name m.entries

  -- a new value of a name
  pub named_by-insert : (m n : BTreeMap (String Y) X) (key : String Y) (v : X) →
      UpdatesBy string_cmp (string_cmp key) m n (Some v) →
      named_by n ≡ insert (named_by m) (string_bytes key) (value v)
  named_by-insert m n key v updates =
      same_map nat_list_cmp_total (slice_cmp-IsAntisymmetric nat_cmp-IsAntisymmetric) (named_by n)
      (insert (named_by m) (string_bytes key) (value v)) each
    where
      one : (t : Bool) (b : Option X) →
          option_map value (cond t (Some v) b) ≡ cond t (Some (value v)) (option_map value b)
      one true b = refl
      one false b = refl

      same : (q : List ℕ) →
          eq_by_cmp (slice_cmp nat_cmp) q (string_bytes key) ≡ bytes_eq (string_bytes key) q
      same q =
          (eq_by_cmp_equiv nat_list_cmp_total).symm q (string_bytes key)
          ∙ is_eq-slice_cmp (string_bytes key) q

      each : (q : List ℕ) →
          get (named_by n) q ≡ get (insert (named_by m) (string_bytes key) (value v)) q
      each q =
          get-named_by n q
          ∙ ap (option_map value) (btree_map_updates_text (string_bytes key) m n (Some v) updates q)
          ∙ one (bytes_eq (string_bytes key) q) (get_by_text m q)
          ∙ ap₂ (λ t o. cond t (Some (value v)) o) (sym (same q)) (sym (get-named_by m q))
          ∙ sym (get-insert nat_list_cmp_total (named_by m) (string_bytes key) (value v) q)

-- a function of an item behind a reference
pub option_map-copied : {X U : Type 0} (f : X → U) (o : Option (Bor X)) →
    option_map (λ r. f r.now) o ≡ option_map f (option_copied o)
option_map-copied f None = refl
option_map-copied f (Some r) = refl
