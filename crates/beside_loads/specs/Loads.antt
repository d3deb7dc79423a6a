-- A thread that is protected from a load. A load is a setup with its image and ports, in which the
-- seven other threads run any code.
use Rattle.std.specs.Prelude.{◌≡◌, ◌↔◌, ℕ, Bool, true, List, Option, Some, Ok, IfSome}
use Rattle.flexpret_top.specs.Answer.Answer.{Says}
use Rattle.flexpret_top.specs.Ask.TheVariants.{Run}
use Rattle.flexpret_top.specs.Command.{IsAnswer}
use Rattle.flexpret_top.specs.Commands.{ask}
use Rattle.flexpret_top.specs.Content.{FileMap}
use Rattle.flexpret_top.specs.Headline.{machine_of}
use Rattle.flexpret_top.specs.LoadedProgram.{Program}
use Rattle.flexpret_top.specs.Program.{program}
use Rattle.flexpret_top.specs.RetiredTraces.{IsRetiredQuiet}
use Rattle.flexpret_top.specs.PluggedPorts.{Row}
use Rattle.flexpret_top.specs.Solo.{solo}
use Rattle.flexpret_top.specs.Text.{text}
use Rattle.flexpret_top.specs.ThreadView.{View}
use Rattle.flexpret_top.specs.TraceLaws.{IsConfinedHard, view_of}

-- The files have a setup of this name, in which thread i is confined, and hard and active at the
-- start. Its view over n cycles is v, and no retired issue writes a configuration register. The
-- other threads are arbitrary.
pub record IsProtected (files : FileMap) (ports : List (Option Row)) (setup : List ℕ) (i n : ℕ)
    (v : View) : Type 0 where
  pub loaded : Program
  pub found : program files setup ≡ Ok loaded
  pub hard : IsConfinedHard (machine_of loaded ports) i
  pub quiet : IsRetiredQuiet (machine_of loaded ports) n
  pub view : view_of (machine_of loaded ports) i n ≡ v

-- The bytes are the text of the command, with status 0. If the arguments request the trace of a
-- thread that is protected from the load, they are the text of the definition of one thread over
-- its view.
pub record IsTraceBeside (contents : Option FileMap) (words : List (List ℕ)) (ports : List
    (Option Row))
    (bytes : List ℕ) : Type 0 where
  pub answer : IfSome contents (λ files. IsAnswer words files ports (Says 0 bytes))
  pub text_of : IfSome contents (λ files. (setup : List ℕ) (i n : ℕ) (v : View) → ask words
      ≡ Some (Run setup i n) → IsProtected files ports setup i n v → bytes ≡ text (solo v n))

-- The result is whether the commands write the same bytes with both loads. So it is true if a
-- thread is protected from both, with the same view.
pub record IsSameBeside (one other : Option FileMap) (words : List (List ℕ))
    (ports_of_one ports_of_other : List (Option Row)) (same : Bool) : Type 0 where
  pub first : List ℕ
  pub second : List ℕ
  pub with_one : IsTraceBeside one words ports_of_one first
  pub with_other : IsTraceBeside other words ports_of_other second
  pub exact : (same ≡ true) ↔ (first ≡ second)
  pub always : IfSome one (λ first. IfSome other (λ second. (setup : List ℕ) (i n : ℕ) (v : View) →
      ask words ≡ Some (Run setup i n) → IsProtected first ports_of_one setup i n v →
      IsProtected second ports_of_other setup i n v → same ≡ true))
