-- The status and output of a command that ends before its text, by the reason.
use Rattle.std.proofs.Common.{◌≡◌, ◌⊎◌, ℕ, ◌<◌, ◌≤◌, false, List, Option}
use Rattle.std.proofs.Common.{Some, None, inl, inr, refl, ap, subst, arith}
use Rattle.flexpret_top.proofs.Ending.{status-of}
use Rattle.std.specs.Prelude.{IfSome, IsSomeAnd}
use Rattle.fp_io.specs.Causes.{HasRisen}
use Rattle.fp_io.specs.Content.{FileMap}
use Rattle.fp_ports.specs.PluggedPorts.{Row}
use Rattle.command_line.specs.declared.asked.Ask.{Ask}
use Rattle.trace_print.specs.declared.refusals.Refusal.{Refusal}
use Rattle.trace_print.specs.declared.refusals.Refusal.TheVariants.{Setup, Section, Image}
use Rattle.trace_print.specs.declared.refusals.Refusal.TheVariants.{Source, Bound, Routines}
use Rattle.commands.specs.declared.status.Status.{Status}
use Rattle.commands.specs.declared.status.Status.TheVariants.{Ok, Differs, Usage}
use Rattle.commands.specs.declared.status.Status.TheVariants.{Read, Write, NoMemory}
use Rattle.commands.specs.declared.stop.CommandStop.{CommandStop}
use Rattle.commands.specs.declared.stop.CommandStop.TheVariants as why
use Rattle.commands.specs.Answer.{differs_text, refusal_answer, status_of}
use Rattle.commands.specs.Answer.Answer.{Says, Missing}
use Rattle.flexpret_top.specs.Command.{IsAnswerIn, HasLeft, Said, Began, Answered}
use Rattle.commands.specs.Status.{number_of}
use Rattle.commands.specs.Stops.{IsStop, is_difference}
use Rattle.flexpret_top.specs.Endings.{HasEnded}

-- a refusal's status is one of 3 to 6, or 10
refusal_number : (refusal : Refusal) (n : ℕ) → n ≡ status_of refusal →
    (3 ≤ n) × ((n ≤ 6) ⊎ (n ≡ 10))
refusal_number (Setup code path) n is = (omega (arith, is), inl (omega (arith, is)))
refusal_number (Section code) n is = (omega (arith, is), inl (omega (arith, is)))
refusal_number (Image code offset) n is = (omega (arith, is), inl (omega (arith, is)))
refusal_number (Source line code) n is = (omega (arith, is), inl (omega (arith, is)))
refusal_number (Bound code value) n is = (omega (arith, is), inl (omega (arith, is)))
refusal_number (Routines line code) n is = (omega (arith, is), inr is)

no_refusal : (refusal : Refusal) (s other : Status) → number_of s ≡ status_of refusal → s ≡ other →
    6 < number_of other → number_of other < 10 → ⊥
no_refusal refusal s other is same more less =
    let e = ap number_of same in
    elim ((refusal_number refusal (number_of s) is).1) [
      | inl small ↦ omega (arith, small, e, more)
      | inr ten ↦ omega (arith, ten, e, less)
    ]

-- the status and output of such a command
pub stop-said : (contents : Option FileMap) (asked : Ask) (ports : List (Option Row))
    (b a : ℕ) (stop : CommandStop) (s : Status) (b' a' : ℕ) (before after : Option (List ℕ)) →
    IsStop contents (IsAnswerIn asked ports) b a stop → HasEnded stop b' a' before after s →
    (s ≡ Read → ⊥) → (s ≡ Write → ⊥) → (s ≡ NoMemory → ⊥) →
    IfSome contents (λ files. Said (IsAnswerIn asked ports files) (number_of s) before after)
stop-said None asked ports b a stop s b' a' before after is ends read write memory = tt
stop-said (Some files) asked ports b a
    (why.Refused refusal) s b' a' before after is (inl puts) read write memory =
    record { answer = refusal_answer refusal; is = is; said = puts }
stop-said (Some files) asked ports b a (why.Refused refusal) s b' a' before after is
    (inr fails) read write memory = absurd (write fails.0)
stop-said (Some files) asked ports b a
    (why.Differs line) s b' a' before after is (inl puts) read write memory =
    record { answer = Says 1 (differs_text line); is = is; said = puts }
stop-said (Some files) asked ports b a (why.Differs line) s b' a' before after is
    (inr fails) read write memory = absurd (write fails.0)
stop-said (Some files) asked ports b a why.Read s b' a' before after is ends read write memory =
    absurd (read ends)
stop-said (Some files) asked ports b a why.NoMemory s b' a' before after is ends read write memory =
    absurd (memory ends)

-- a command that stops because a file can't be read ends with the status Read
pub stop-missing : (stop : CommandStop) (s : Status) (b a : ℕ) (before after : Option (List ℕ)) →
    HasEnded stop b a before after s → stop ≡ why.Read → s ≡ Read
stop-missing stop s b a before after ends read =
    let By : CommandStop → Type 0 = λ r. HasEnded r b a before after s in
    subst By read ends

pub stop-read : (contents : Option FileMap) (asked : Ask) (ports : List (Option Row))
    (b a : ℕ) (stop : CommandStop) (s : Status) (b' a' : ℕ) (before after : Option (List ℕ)) →
    IsStop contents (IsAnswerIn asked ports) b a stop → HasEnded stop b' a' before after s
    → s ≡ Read →
    HasRisen b a ⊎ IsSomeAnd contents (λ files. IsAnswerIn asked ports files Missing)
stop-read contents asked ports b a (why.Refused refusal) s b' a' before after is (inl puts) read =
    absurd (no_refusal refusal s Read puts.0 read (omega arith) (omega arith))
stop-read contents asked ports b a (why.Refused refusal) s b' a' before after is (inr fails) read =
    let e = fails.0 in cc
stop-read contents asked ports b a (why.Differs line) s b' a' before after is (inl puts) read =
    let e = ap number_of read in absurd (omega (arith, e, puts.0))
stop-read contents asked ports b a (why.Differs line) s b' a' before after is (inr fails) read =
    let e = fails.0 in cc
stop-read contents asked ports b a why.Read s b' a' before after is ends read = is
stop-read contents asked ports b a why.NoMemory s b' a' before after is ends read = cc

-- after a failure of the sink
pub stop-write : (stop : CommandStop) (s : Status) (b' a' : ℕ) (before after : Option (List ℕ)) →
    HasEnded stop b' a' before after s → s ≡ Write → HasRisen b' a'
stop-write (why.Refused refusal) s b' a' before after (inl puts) write =
    absurd (no_refusal refusal s Write puts.0 write (omega arith) (omega arith))
stop-write (why.Refused refusal) s b' a' before after (inr fails) write = fails.1
stop-write (why.Differs line) s b' a' before after (inl puts) write =
    let e = ap number_of write in absurd (omega (arith, e, puts.0))
stop-write (why.Differs line) s b' a' before after (inr fails) write = fails.1
stop-write why.Read s b' a' before after ends write = absurd (cc)
stop-write why.NoMemory s b' a' before after ends write = absurd (cc)

pub stop-prefix : (contents : Option FileMap) (asked : Ask) (ports : List (Option Row))
    (b a : ℕ) (stop : CommandStop) (s : Status) (b' a' : ℕ) (before after : Option (List ℕ)) →
    IsStop contents (IsAnswerIn asked ports) b a stop → HasEnded stop b' a' before after s
    → s ≡ Write →
    IfSome contents (λ files. Began (IsAnswerIn asked ports files) before after)
stop-prefix None asked ports b a stop s b' a' before after is ends write = tt
stop-prefix (Some files) asked ports b a (why.Refused refusal) s b' a' before after is
    (inl puts) write = absurd (no_refusal refusal s Write puts.0 write (omega arith) (omega arith))
stop-prefix (Some files) asked ports b a
    (why.Refused refusal) s b' a' before after is (inr fails) write =
    record { answer = refusal_answer refusal; is = is; prefix = fails.2 }
stop-prefix (Some files) asked ports b a (why.Differs line) s b' a' before after is
    (inl puts) write = let e = ap number_of write in absurd (omega (arith, e, puts.0))
stop-prefix (Some files) asked ports b a
    (why.Differs line) s b' a' before after is (inr fails) write =
    record { answer = Says 1 (differs_text line); is = is; prefix = fails.2 }
stop-prefix (Some files) asked ports b a why.Read s b' a' before after is ends write = absurd (cc)
stop-prefix (Some files) asked ports b a why.NoMemory s b' a' before after is ends write =
    absurd (cc)

-- without a failure
pub stop-complete : (contents : Option FileMap) (asked : Ask) (ports : List (Option Row))
    (b a : ℕ) (stop : CommandStop) (s : Status) (b' a' : ℕ) (before after : Option (List ℕ)) →
    IsStop contents (IsAnswerIn asked ports) b a stop →
    HasEnded stop b' a' before after s → (HasRisen b a → ⊥) → (HasRisen b' a' → ⊥) →
    IfSome contents (λ files. (number_of s ≡ 9)
    ⊎ Answered (IsAnswerIn asked ports files) (number_of s))
stop-complete None asked ports b a stop s b' a' before after is ends fetches puts = tt
stop-complete (Some files) asked ports b a
    (why.Refused refusal) s b' a' before after is (inl said) fetches puts =
    inr (record { answer = refusal_answer refusal; is = is; answered = said.0 })
stop-complete (Some files) asked ports b a (why.Refused refusal) s b' a' before after is
    (inr fails) fetches puts = absurd (puts fails.1)
stop-complete (Some files) asked ports b a
    (why.Differs line) s b' a' before after is (inl said) fetches puts =
    inr (record { answer = Says 1 (differs_text line); is = is; answered = said.0 })
stop-complete (Some files) asked ports b a (why.Differs line) s b' a' before after is
    (inr fails) fetches puts = absurd (puts fails.1)
stop-complete (Some files) asked ports b a why.Read s b' a' before after
    (inl rose) ends fetches puts = absurd (fetches rose)
stop-complete (Some files) asked ports b a why.Read s b' a' before after
    (inr missing) ends fetches puts =
    inr (record { answer = Missing; is = missing; answered = ap number_of ends })
stop-complete (Some files) asked ports b a why.NoMemory s b' a' before after is ends fetches puts =
    inl (ap number_of ends)

-- its status is neither Ok nor that of a usage error
stop_number : (stop : CommandStop) (s : Status) (b' a' : ℕ) (before after : Option (List ℕ)) →
    HasEnded stop b' a' before after s → (number_of s ≡ 1) ⊎ (3 ≤ number_of s)
stop_number (why.Refused refusal) s b' a' before after (inl puts) =
    inr (refusal_number refusal (number_of s) puts.0).0
stop_number (why.Refused refusal) s b' a' before after (inr fails) =
    let e = ap number_of fails.0 in inr (omega (arith, e))
stop_number (why.Differs line) s b' a' before after (inl puts) = inl puts.0
stop_number (why.Differs line) s b' a' before after (inr fails) =
    let e = ap number_of fails.0 in inr (omega (arith, e))
stop_number why.Read s b' a' before after ends = let e = ap number_of ends in inr (omega (arith, e))
stop_number why.NoMemory s b' a' before after ends =
    let e = ap number_of ends in inr (omega (arith, e))

no_number : (n k : ℕ) → (n ≡ 1) ⊎ (3 ≤ n) → n ≡ k → (k ≡ 0) ⊎ (k ≡ 2) → ⊥
no_number n k (inl one) same (inl is) = omega (arith, one, same, is)
no_number n k (inl one) same (inr is) = omega (arith, one, same, is)
no_number n k (inr more) same (inl is) = omega (arith, more, same, is)
no_number n k (inr more) same (inr is) = omega (arith, more, same, is)

pub stop-usage : (stop : CommandStop) (s : Status) (b' a' : ℕ) (before after : Option (List ℕ)) →
    HasEnded stop b' a' before after s → s ≡ Usage → ⊥
stop-usage stop s b' a' before after ends usage =
    no_number (number_of s) 2 (stop_number stop s b' a' before after ends)
    (ap number_of usage) (inr refl)

pub stop-leaves : (contents : Option FileMap) (asked : Ask) (ports last : List (Option Row))
    (stop : CommandStop) (s : Status) (b' a' : ℕ) (before after : Option (List ℕ)) →
    HasEnded stop b' a' before after s → s ≡ Ok → IfSome contents (λ files. HasLeft asked
    files ports last)
stop-leaves contents asked ports last stop s b' a' before after ends ok =
    absurd (no_number (number_of s) 0 (stop_number stop s b' a' before after ends)
    (ap number_of ok) (inl refl))

-- a status other than Differs and Write isn't that of a difference
pub no-difference : (stop : CommandStop) (s : Status) (b' a' : ℕ) (before after : Option (List ℕ)) →
    HasEnded stop b' a' before after s → (s ≡ Differs → ⊥) → (s ≡ Write → ⊥) →
    is_difference stop ≡ false
no-difference (why.Refused refusal) s b' a' before after ends differs write = refl
no-difference (why.Differs line) s b' a' before after (inl puts) differs write =
    absurd (differs (status-of s Differs puts.0))
no-difference (why.Differs line) s b' a' before after (inr fails) differs write =
    absurd (write fails.0)
no-difference why.Read s b' a' before after ends differs write = refl
no-difference why.NoMemory s b' a' before after ends differs write = refl

-- a command that ends with Differs wasn't stopped by a failed allocation
pub difference-no_memory : (stop : CommandStop) (s : Status) (b' a' : ℕ) (before after
    : Option (List ℕ)) →
    HasEnded stop b' a' before after s → s ≡ Differs → stop ≡ why.NoMemory → ⊥
difference-no_memory stop s b' a' before after ends differs memory =
    let Stops : CommandStop → Type 0 = λ stop. HasEnded stop b' a' before after s in
    let none : s ≡ NoMemory = subst Stops memory ends in cc

pub write-no_memory : (stop : CommandStop) (s : Status) (b' a' : ℕ) (before after : Option (List ℕ))
    →
    HasEnded stop b' a' before after s → s ≡ Write → stop ≡ why.NoMemory → ⊥
write-no_memory stop s b' a' before after ends write memory =
    let Stops : CommandStop → Type 0 = λ stop. HasEnded stop b' a' before after s in
    let none : s ≡ NoMemory = subst Stops memory ends in cc
