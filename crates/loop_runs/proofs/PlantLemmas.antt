-- Lemmas on one plant among the plants.
use Rattle.std.proofs.Common.{◌≡◌, ◌≢◌, ℕ, ◌<◌, List, [], ◌∷◌, get_or, length, None, Option}
use Rattle.std.proofs.Common.{sym, ◌∙◌, ap, subst, get_or-set_other, get_or-set_same}
use Rattle.std.proofs.Math.ListN.{get_or-map, set}
use Rattle.std.proofs.lemmas.List.{get_or_read}
use Rattle.loop_runs.specs.Plants.{Continues, HasStepped, IsWord, Response}
use Rattle.loop_runs.specs.Plants.{response_at, response_of, responses_of}

-- x is the plant of a thread before a call, and y after it
module _ {B : Type 0} (response : B → Response) (plants : List (Option B)) (thread : ℕ)
    (x y : Option B) (read : x ≡ get_or plants thread x) (inside : thread < length plants) where
  pub response_read : response_of response x ≡ response_at (responses_of response plants) thread
  response_read =
      ap (response_of response) (get_or_read plants thread x inside read None)
      ∙ sym (get_or-map (response_of response) plants thread None)

  written : response_at (responses_of response (set plants thread y)) thread
      ≡ response_of response y
  written =
      get_or-map (response_of response) (set plants thread y) thread None
      ∙ ap (response_of response) (get_or-set_same plants thread y None inside)

  others : (k : ℕ) → k ≢ thread → response_at (responses_of response (set plants thread y)) k
      ≡ response_at (responses_of response plants) k
  others k apart =
      get_or-map (response_of response) (set plants thread y) k None
      ∙ ap (response_of response) (get_or-set_other plants thread k y None apart)
      ∙ sym (get_or-map (response_of response) plants k None)

  pub stepped : (taken : ℕ) (word : Option ℕ) → Continues (response_of response x)
      (response_of response y) (taken ∷ []) → IsWord (response_of response x) (taken ∷ []) word →
      HasStepped (responses_of response plants)
      (responses_of response (set plants thread y)) thread taken word
  stepped taken word continues is = record {
    continues =
        subst (λ (o : Option Response).
        Continues o (response_at (responses_of response (set plants thread y)) thread) (taken ∷ []))
        response_read
        (subst (λ (o : Option Response). Continues (response_of response x) o (taken ∷ []))
        (sym written) continues);
    word_is = subst (λ (o : Option Response). IsWord o (taken ∷ []) word) response_read is;
    others = others;
  }
