use Rattle.std.proofs.Common.{◌≡◌, ◌∙◌, ap, Some, true}
use Rattle.clap.specs.Walk.{Rule, rule_of}
use Rattle.clap.specs.declared.builder.arg.Arg.{Arg}
use Rattle.clap.specs.declared.builder.action.ArgAction.TheVariants.{Set}
use Rattle.command_line.proofs.parse.required_argument.Goals as goal

-- the rule of an argument that takes its form by one call after the other
rule_of_required : (a b c : Arg) (rule : Rule) → b ≡ record a { required = true } →
    c ≡ record b { action = Some Set } → rule_of a ≡ rule →
    rule_of c ≡ record rule { action = Some Set; required = true }
rule_of_required a b c rule required action new =
    let with_required = ap rule_of required ∙ ap (λ (r : Rule). record r { required = true }) new in
    ap rule_of action ∙ ap (λ (r : Rule). record r { action = Some Set }) with_required

pub returns-clause-rule : goal.returns-clause-rule
returns-clause-rule c =
    rule_of_required c.new.result c.required.result c.action.result _ c.required.ensures
    c.action.ensures c.new.ensures.rule

pub returns-clause-local : goal.returns-clause-local
returns-clause-local c =
    ap (λ (x : Arg). x.global) c.action.ensures
    ∙ (ap (λ (x : Arg). x.global) c.required.ensures ∙ c.new.ensures.optional.1)
