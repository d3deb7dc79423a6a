-- Lemmas on one row among the rows of the ports.
use Rattle.std.proofs.Common.{◌≡◌, ◌≢◌, ℕ, ◌<◌, List, get_or, length, None, Option}
use Rattle.std.proofs.Common.{sym, ◌∙◌, ap, subst, get_or-set_same, get_or-set_other}
use Rattle.std.proofs.Math.ListN.{get_or-map, set}
use Rattle.std.proofs.lemmas.List.{get_or_read, map-set, set-get_or}
use Rattle.fp_ports.specs.PluggedPorts.{Row, Forgot, row_of, rows_of, row_at}

-- x is the port of a thread before a call, and y after it
module _ {B : Type 0} (latched : B → ℕ) (word_at : B → ℕ → ℕ) (ports : List (Option B)) (thread : ℕ)
    (x y : Option B) (read : x ≡ get_or ports thread x) (inside : thread < length ports) where
  -- the row of the port is the row of the thread
  pub row_read : row_of latched word_at x ≡ row_at (rows_of latched word_at ports) thread
  row_read =
      ap (row_of latched word_at) (get_or_read ports thread x inside read None)
      ∙ sym (get_or-map (row_of latched word_at) ports thread None)

  -- if the port's row becomes a function of itself, the thread's row does, and the others stay
  pub rows_step : (f : Option Row → Option Row) →
      row_of latched word_at y ≡ f (row_of latched word_at x) →
      rows_of latched word_at (set ports thread y) ≡ set (rows_of latched word_at ports) thread
      (f (row_at (rows_of latched word_at ports) thread))
  rows_step f h =
      map-set (row_of latched word_at) ports thread y
      ∙ ap (set (rows_of latched word_at ports) thread) (h ∙ ap f row_read)

  -- if the port's row stays, all rows stay
  pub rows_stay : row_of latched word_at y ≡ row_of latched word_at x →
      rows_of latched word_at (set ports thread y) ≡ rows_of latched word_at ports
  rows_stay h = rows_step (λ row. row) h ∙ set-get_or (rows_of latched word_at ports) thread None

  -- the row of the thread is that of the port that was put there
  pub row_put : row_at (rows_of latched word_at (set ports thread y)) thread
      ≡ row_of latched word_at y
  row_put =
      get_or-map (row_of latched word_at) (set ports thread y) thread None
      ∙ ap (row_of latched word_at) (get_or-set_same ports thread y None inside)

  -- the rows of the other threads stay
  pub rows_others : (k : ℕ) → k ≢ thread → row_at (rows_of latched word_at (set ports thread y)) k
      ≡ row_at (rows_of latched word_at ports) k
  rows_others k apart =
      get_or-map (row_of latched word_at) (set ports thread y) k None
      ∙ ap (row_of latched word_at) (get_or-set_other ports thread k y None apart)
      ∙ sym (get_or-map (row_of latched word_at) ports k None)

  -- the port forgot words, and so did the row of the thread
  pub row_forgot : (first : ℕ) → Forgot first (row_of latched word_at x)
      (row_of latched word_at y) → Forgot first (row_at (rows_of latched word_at ports) thread)
      (row_at (rows_of latched word_at (set ports thread y)) thread)
  row_forgot first h =
      subst (λ (o : Option Row).
      Forgot first o (row_at (rows_of latched word_at (set ports thread y)) thread)) row_read
      (subst (λ (o : Option Row). Forgot first (row_of latched word_at x) o) (sym row_put) h)
