-- The end of a command, by its prepared answer.
use Rattle.std.proofs.Common.{◌≡◌, ◌⊎◌, ℕ, ◌==◌, true, false, if◌then◌else◌, List, Option}
use Rattle.std.proofs.Common.{Some, None, inl, inr, refl, ap, sym, ◌∙◌, arith}
use Rattle.std.specs.Prelude.{IfSome}
use Rattle.std.specs.Io.KnownBytes.{Appends}
use Rattle.std.proofs.lemmas.Bool.Decides.{nat_tests}
use Rattle.fp_io.specs.Content.{FileMap, AppendsPrefix, Request}
use Rattle.fp_ports.specs.PluggedPorts.{Row}
use Rattle.command_line.specs.declared.asked.Ask.{Ask}
use Rattle.command_line.specs.declared.asked.Ask.TheVariants as asks
use Rattle.command_line.specs.declared.asked.Ask.TheVariants.{Run, Dump, Asm, Selfrun}
use Rattle.command_line.specs.declared.asked.Ask.TheVariants.{Phases, Solo, Check, Elf, Calls}
use Rattle.flexpret_top.specs.Requests.{IsAskedBy}
use Rattle.flexpret_top.specs.declared.ready.Prepared.{Prepared}
use Rattle.commands.specs.declared.status.Status.{Status}
use Rattle.commands.specs.declared.status.Status.TheVariants.{Ok, Differs, Usage, Setup}
use Rattle.commands.specs.declared.status.Status.TheVariants.{Image, Source, Bound, Read}
use Rattle.commands.specs.declared.status.Status.TheVariants.{Write, NoMemory, Routines}
use Rattle.commands.specs.Answer.Answer.{Says}
use Rattle.flexpret_top.specs.Command.{IsAnswerIn, HasLeft}
use Rattle.flexpret_top.specs.Command.{HasLeftCutShort, HasLeftUnrun, Said, Began, Answered}
use Rattle.flexpret_top.specs.Prepared.{HasDelivered, HasLeftPorts, HasLeftPortsInPart, Prepares}
use Rattle.commands.specs.Status.{IsStatus, number_of}

-- after a failure of the sink a prefix of the answer was written
pub prefix-of : (contents : Option FileMap) (asked : Ask) (ports fed : List (Option Row))
    (p : Prepared)
    (before after : Option (List ℕ)) → IfSome contents (λ files. Prepares asked files ports fed p) →
    ((written : List ℕ) → HasDelivered p fed written → AppendsPrefix before after written) →
    IfSome contents (λ files. Began (IsAnswerIn asked ports files) before after)
prefix-of None asked ports fed p before after prepares puts = tt
prefix-of (Some files) asked ports fed p before after prepares puts =
    record {
      answer = Says 0 prepares.written;
      is = prepares.is;
      prefix = puts prepares.written prepares.delivers;
    }

-- otherwise the whole answer was written
pub all-of : (contents : Option FileMap) (asked : Ask) (ports fed : List (Option Row))
    (p : Prepared)
    (before after : Option (List ℕ)) → IfSome contents (λ files. Prepares asked files ports fed p) →
    ((written : List ℕ) → HasDelivered p fed written → Appends before after written) →
    IfSome contents (λ files. Said (IsAnswerIn asked ports files) 0 before after)
all-of None asked ports fed p before after prepares puts = tt
all-of (Some files) asked ports fed p before after prepares puts =
    record {
      answer = Says 0 prepares.written;
      is = prepares.is;
      said = (refl, puts prepares.written prepares.delivers);
    }

-- the ports after a complete answer
pub left-of : (contents : Option FileMap) (asked : Ask) (ports fed last : List (Option Row))
    (p : Prepared) → IfSome contents (λ files. Prepares asked files ports fed p) →
    HasLeftPorts p fed last → IfSome contents (λ files. HasLeft asked files ports last)
left-of None asked ports fed last p prepares left = tt
left-of (Some files) asked ports fed last p prepares left = prepares.leaves last left

-- the ports after a failure of the sink
pub part-of : (contents : Option FileMap) (asked : Ask)
    (ports fed last : List (Option Row)) (p : Prepared) →
    IfSome contents (λ files. Prepares asked files ports fed p) → HasLeftPortsInPart p fed last →
    IfSome contents (λ files. HasLeftCutShort (Some asked) files ports last)
part-of None asked ports fed last p prepares left = tt
part-of (Some files) asked ports fed last p prepares left = inr (prepares.leaves_part last left)

pub same-cut-short : (contents : Option FileMap) (asked : Ask) (ports last : List (Option Row)) →
    last ≡ ports → IfSome contents (λ files. HasLeftCutShort (Some asked) files ports last)
same-cut-short None asked ports last same = tt
same-cut-short (Some files) asked ports last same = inl same

-- a status by its number
status_by : ℕ → Status
status_by n =
    if n == 0 then Ok
    else if n == 1 then Differs
    else if n == 2 then Usage
    else if n == 3
    then Setup
    else if n == 4 then Image
    else if n == 5 then Source
    else if n == 6 then Bound
    else if n == 7 then Read else if n == 8 then Write else if n == 9 then NoMemory else Routines

by_number : (s : Status) → status_by (number_of s) ≡ s
unfolding status_by
by_number Ok = refl
by_number Differs = refl
by_number Usage = refl
by_number Setup = refl
by_number Image = refl
by_number Source = refl
by_number Bound = refl
by_number Read = refl
by_number Write = refl
by_number NoMemory = refl
by_number Routines = refl

pub status-of : (s other : Status) → number_of s ≡ number_of other → s ≡ other
status-of s other e = sym (by_number s) ∙ (ap status_by e ∙ by_number other)

pub is_status : (s : Status) → IsStatus (number_of s)
is_status Ok = inl refl
is_status Differs = inr (inl refl)
is_status Usage = inr (inr (inl refl))
is_status Setup = inr (inr (inr (inl refl)))
is_status Image = inr (inr (inr (inr (inl refl))))
is_status Source = inr (inr (inr (inr (inr (inl refl)))))
is_status Bound = inr (inr (inr (inr (inr (inr (inl refl))))))
is_status Read = inr (inr (inr (inr (inr (inr (inr (inl refl)))))))
is_status Write = inr (inr (inr (inr (inr (inr (inr (inr (inl refl))))))))
is_status NoMemory = inr (inr (inr (inr (inr (inr (inr (inr (inr (inl refl)))))))))
is_status Routines = inr (inr (inr (inr (inr (inr (inr (inr (inr (inr refl)))))))))

pub nothing-of : (s : Status) → (s ≡ Usage → ⊥) →
    (number_of s ≡ 2) ⊎ ((number_of s ≡ 7) ⊎ (number_of s ≡ 9)) → (s ≡ Read) ⊎ (s ≡ NoMemory)
nothing-of s asked (inl e) = absurd (asked (status-of s Usage e))
nothing-of s asked (inr (inl e)) = inl (status-of s Read e)
nothing-of s asked (inr (inr e)) = inr (status-of s NoMemory e)

-- a number isn't another one
pub unequal : {Q : Type 0} (m n : ℕ) → m ≡ n → (m == n) ≡ false → Q
unequal m n same other =
    let yes : (m == m) ≡ true = grind (arith, nat_tests) in
    let no : (m == m) ≡ false = rw (sym same) at other in
    absurd (let none : ⊥ = cc in none)

-- a status that is none of those at which nothing is written
pub not-silent : {Q : Type 0} (s : ℕ) → (s == 2) ≡ false → (s == 7) ≡ false → (s == 9) ≡ false →
    (s ≡ 2) ⊎ ((s ≡ 7) ⊎ (s ≡ 9)) → Q
not-silent s no_two no_seven no_nine (inl two) = unequal s 2 two no_two
not-silent s no_two no_seven no_nine (inr (inl seven)) = unequal s 7 seven no_seven
not-silent s no_two no_seven no_nine (inr (inr nine)) = unequal s 9 nine no_nine

-- a command isn't a usage error
pub some-none : {A Q : Type 0} {x : A} → Some x ≡ None → Q
some-none none = absurd (let no : ⊥ = cc in no)

-- the prepared answer is an answer to the command
pub answered-of : (contents : Option FileMap) (asked : Ask) (ports fed : List (Option Row))
    (p : Prepared) → IfSome contents (λ files. Prepares asked files ports fed p) →
    IfSome contents (λ files. (◌≡◌ {A = ℕ} 0 9) ⊎ Answered (IsAnswerIn asked ports files) 0)
answered-of None asked ports fed p prepares = tt
answered-of (Some files) asked ports fed p prepares =
    inr (record { answer = Says 0 prepares.written; is = prepares.is; answered = refl })

-- memory ran out before a file was requested
pub unasked : (o : Option Ask) (contents : Option FileMap) (status : ℕ)
    (before : Option (List Request)) → status ≡ 9 → IsAskedBy o contents status before before
unasked None contents status before nine = refl
unasked (Some asked) contents status before nine = inl (nine, refl)

pub unrun-same : (o : Option Ask) (files : FileMap) (ports : List (Option Row)) →
    HasLeftUnrun o files ports ports
unrun-same None files ports = refl
unrun-same (Some (Run setup thread cycles)) files ports = inl refl
unrun-same (Some (Dump setup cycles)) files ports = inl refl
unrun-same (Some (Asm source)) files ports = refl
unrun-same (Some (asks.Bound setup thread section)) files ports = refl
unrun-same (Some (Selfrun number)) files ports = refl
unrun-same (Some (Phases setup cycles)) files ports = inl refl
unrun-same (Some (Solo setup thread cycles)) files ports = refl
unrun-same (Some (Check setup thread cycles trace)) files ports = refl
unrun-same (Some (Elf file)) files ports = refl
unrun-same (Some (Calls setup thread section routines)) files ports = refl
