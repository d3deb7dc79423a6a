-- A list of plants in the first bytes of its file, and why there is none.
use Rattle.std.proofs.Common.{◌≡◌, ◌≢◌, ℕ, ◌+◌, ◌<◌, ◌≤◌, ◌∙◌, List, length, nat_lt, true, Option}
use Rattle.std.proofs.Common.{Some, None, Result, Ok, Err, ap, arith, inl, inr, refl, sym, subst}
use Rattle.std.proofs.Common.{take}
use Rattle.std.specs.Prelude.{IfSome, IsSomeAnd}
use Rattle.std.proofs.lemmas.Bool.Decides.{nat_tests}
use Rattle.fp_io.specs.Causes.{HasRisen}
use Rattle.fp_io.specs.Content.{Fetched, FileMap}
use Rattle.command_line.specs.Causes.{IsCauseOf}
use Rattle.command_line.specs.declared.asked.WordsNo.{WordsNo}
use Rattle.command_line.specs.declared.asked.WordsNo.TheVariants as words
use Rattle.commands.proofs.Cuts.{IsCut, cut-by}
use Rattle.commands.specs.Program.{program}
use Rattle.commands.specs.Stops.{IsFetchStop, IsStopIn}
use Rattle.commands.specs.declared.stop.CommandStop.{CommandStop}
use Rattle.commands.specs.declared.stop.CommandStop.TheVariants as stop
use Rattle.loop_command_line.specs.ListCauses.{IsListCauseOf}
use Rattle.loop_command_line.specs.Plants.{Plants, most_list_bytes, plants_of}
use Rattle.loop_command_line.specs.declared.arguments.LoopAsk.{LoopAsk}
use Rattle.loop_command_line.specs.declared.plants.ListNo.{ListNo}
use Rattle.loop_command_line.specs.declared.plants.ListNo.TheVariants as list
use Rattle.loop_commands.specs.Faults.{no_memory, of_list, of_words}
use Rattle.loop_commands.specs.LoopFiles.{IsFaultOf, IsListFault}
use Rattle.loop_commands.specs.declared.fault.LoopFault.{LoopFault}
use Rattle.loop_commands.specs.declared.fault.LoopFault.TheVariants.{Listed, Stopped, Usage, Write}

list_long : (text : List ℕ) → most_list_bytes < length text → plants_of text ≡ Err list.TooLong
unfolding plants_of
list_long text past =
    let is : nat_lt most_list_bytes (length text) ≡ true = grind (arith, nat_tests) in rw is refl

list_cut : IsCut plants_of most_list_bytes
list_cut = cut-by plants_of most_list_bytes (Err list.TooLong) list_long

over_list : (file : Option (List ℕ)) (text : List ℕ) (r : Result Plants ListNo) →
    IsSomeAnd file (λ whole. text ≡ take (most_list_bytes + 1) whole) → plants_of text ≡ r →
    IsSomeAnd file (λ whole. plants_of whole ≡ r)
over_list None text r found is = absurd found
over_list (Some whole) text r found is = sym (list_cut whole) ∙ sym (ap plants_of found) ∙ is

-- what the fetched bytes list is what the file lists
pub fetched_list : (contents : Option FileMap) (name text : List ℕ) (r : Result Plants ListNo) →
    Fetched contents name most_list_bytes text → plants_of text ≡ r →
    IfSome contents (λ files. IsSomeAnd (files name) (λ whole. plants_of whole ≡ r))
fetched_list None name text r found is = tt
fetched_list (Some files) name text r found is = over_list (files name) text r found is

-- the fault of the fetched bytes is that of the file
pub list_fault : (contents : Option FileMap) (name text : List ℕ) (before after : ℕ) (no : ListNo) →
    Fetched contents name most_list_bytes text → IsListCauseOf (plants_of text) no →
    IsListFault contents name before after (of_list no)
list_fault contents name text before after (list.Line number) found is =
    fetched_list contents name text (Err (list.Line number)) found is
list_fault contents name text before after list.TooLong found is =
    fetched_list contents name text (Err list.TooLong) found is
list_fault contents name text before after list.NoMemory found is = tt

-- a list that isn't fetched
pub fetch_fault : (looks : Type 0) (contents : Option FileMap) (name : List ℕ) (before after : ℕ)
    (why : CommandStop) → IsFetchStop looks contents name before after why →
    IsListFault contents name before after (Stopped why)
fetch_fault looks contents name before after why (inl h) =
    subst (λ w. IsListFault contents name before after (Stopped w)) (sym h.0) tt
fetch_fault looks contents name before after why (inr h) =
    subst (λ w. IsListFault contents name before after (Stopped w)) (sym h.0) h.1

-- arguments that give no run
pub words_fault : (contents : Option FileMap) (asked : Option LoopAsk) (before after : ℕ)
    (no : WordsNo) → IsCauseOf asked no → IsFaultOf contents asked before after (of_words no)
words_fault contents None before after words.Usage is = inl refl
words_fault contents None before after words.NoMemory is = inr refl
words_fault contents (Some ask) before after words.Usage is = absurd (is-some is)
  where
    is-some : Some ask ≡ None → ⊥
    is-some e = grind arith
words_fault contents (Some ask) before after words.NoMemory is = (other, inl refl)
  where
    other : no_memory ≢ Usage
    other e = grind arith

-- a program that isn't loaded
pub program_fault : (contents : Option FileMap) (ask : LoopAsk) (asked : Option LoopAsk)
    (before after : ℕ) (why : CommandStop) → asked ≡ Some ask →
    IsStopIn contents (λ files. program files ask.setup) before after why →
    IsFaultOf contents asked before after (Stopped why)
program_fault contents ask asked before after why same is =
    subst (λ o. IsFaultOf contents o before after (Stopped why)) (sym same)
    (other, inr (inl (why, refl, is)))
  where
    other : Stopped why ≢ Usage
    other e = grind arith

-- a count that rose after another one rose from that one too
later : (a b c : ℕ) → a ≤ b → HasRisen b c → HasRisen a c
later a b c h r = grind (arith, h, r)

list_in_run : (contents : Option FileMap) (ask : LoopAsk) (a b c : ℕ) (fault : LoopFault) → a ≤ b →
    IsListFault contents ask.plants b c fault → IsFaultOf contents (Some ask) a c fault
list_in_run contents ask a b c Usage h is = absurd is
list_in_run contents ask a b c (Listed why) h is = (λ e. grind arith, inr (inr is))
list_in_run contents ask a b c (Stopped stop.NoMemory) h is = (λ e. grind arith, inl refl)
list_in_run contents ask a b c (Stopped stop.Read) h (inl rose) =
    (λ e. grind arith, inr (inr (inl (later a b c h rose))))
list_in_run contents ask a b c (Stopped stop.Read) h (inr lacks) =
    (λ e. grind arith, inr (inr (inr lacks)))
list_in_run contents ask a b c (Stopped (stop.Refused refusal)) h is = absurd is
list_in_run contents ask a b c (Stopped (stop.Differs line)) h is = absurd is
list_in_run contents ask a b c Write h is = absurd is

-- a list that isn't read, in a run that the arguments give
pub plants_fault : (contents : Option FileMap) (ask : LoopAsk) (asked : Option LoopAsk) (a b c : ℕ)
    (fault : LoopFault) → asked ≡ Some ask → a ≤ b →
    IsListFault contents ask.plants b c fault → IsFaultOf contents asked a c fault
plants_fault contents ask asked a b c fault same h is =
    subst (λ o. IsFaultOf contents o a c fault) (sym same) (list_in_run contents ask a b
    c fault h is)

-- what a run owes
pub ruleset run_faults =
    (fetched_list, fetch_fault, list_fault, words_fault, program_fault, plants_fault)
