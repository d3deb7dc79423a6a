-- The setup and the image that a command reads.
use Rattle.std.specs.Prelude.{◌≡◌, ◌⊎◌, ℕ, List, [], ◌∷◌, Option, IfSome, Result, Ok, Err}
use Rattle.fp_io.specs.Content.{HasRequested, FileMap, Request}
use Rattle.fp_setup.specs.Settings.{Settings, size_of}
use Rattle.fp_setup.specs.Setup.{most_setup_bytes, setup}
use Rattle.fp_setup.specs.declared.refusal.Fault.{Fault}
use Rattle.fp_image.specs.Format.{image_of, longest}
use Rattle.fp_image.specs.declared.parts.Segment.{Segment}
use Rattle.fp_image.specs.declared.refusals.ImageRefused.{ImageRefused}
use Rattle.fp_image.specs.declared.refusals.ImageRefused.TheVariants as image_no
use Rattle.trace_print.specs.declared.refusals.Refusal.TheVariants.{Setup, Image}
use Rattle.commands.specs.declared.program.Program.{Program}
use Rattle.commands.specs.Codes.{setup_code, image_code}
use Rattle.commands.specs.Answer.{Answer, refusal_answer, then_by, over_file}
use Rattle.commands.specs.Answer.Answer.{Says}

abbrev pub of_setup : Result Settings Fault → Result Settings Answer
of_setup (Ok s) = Ok s
of_setup (Err fault) = Err (refusal_answer (Setup (setup_code fault.code) fault.place))

-- the requests to the files for a setup, and for the image that it names
abbrev pub setup_request : List ℕ → Request
setup_request name = (name, most_setup_bytes)

abbrev pub image_request : Settings → Request
image_request s = (s.image, longest (size_of s.version))

-- the setup of a file's bytes
unfoldable pub setup_in : List ℕ → Result Settings Answer
setup_in bytes = of_setup (setup bytes)

-- by its definition an image is never refused because memory ran out
abbrev pub of_image : Result (List Segment) ImageRefused → Result (List Segment) Answer
of_image (Ok segments) = Ok segments
of_image (Err (image_no.Fault code offset)) = Err (refusal_answer (Image (image_code code) offset))
of_image (Err image_no.NoMemory) = Err (Says 9 [])

-- the image of a file's bytes, for scratchpads of a size
unfoldable pub image_in : ℕ → List ℕ → Result (List Segment) Answer
image_in size bytes = of_image (image_of size bytes)

abbrev pub with_image : Settings → List Segment → Result Program Answer
with_image s segments = Ok (record { setup = s; image = segments })

-- the setup with a name, and then the image that it names
abbrev pub program : FileMap → List ℕ → Result Program Answer
program files name =
    then_by (over_file setup_in (files name))
    (λ s. then_by (over_file (image_in (size_of s.version)) (files s.image)) (with_image s))

-- the requests for both
abbrev pub program_requests : List ℕ → Settings → List Request
program_requests name s = setup_request name ∷ image_request s ∷ []

-- the requests for a program, or for as much of it as came: the setup, and then, if that is
-- accepted, its image
abbrev pub IsProgramAsked : Option FileMap → List ℕ → Option (List Request) →
    Option (List Request) → Type 0
IsProgramAsked contents name before after =
    HasRequested before after (setup_request name ∷ [])
    ⊎ ((s : Settings) × IfSome contents (λ files. over_file setup_in (files name) ≡ Ok s)
    × HasRequested before after (program_requests name s))
