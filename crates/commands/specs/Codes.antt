-- The numbers of faults in refusal lines. They repeat the numbers of the code's enums, since a
-- definition can't name those. Each function that takes one `as u8` is proved against its table.
use Rattle.std.specs.Prelude.{ℕ, Option, Some, None}
use Rattle.fp_setup.specs.declared.refusal.SetupNo.{SetupNo}
use Rattle.fp_setup.specs.declared.refusal.SetupNo.TheVariants as in_setup
use Rattle.fp_image.specs.declared.refusals.ImageNo.{ImageNo}
use Rattle.fp_image.specs.declared.refusals.ImageNo.TheVariants as in_image
use Rattle.fp_asm.specs.declared.refusal.AsmNo.{AsmNo}
use Rattle.fp_asm.specs.declared.refusal.AsmNo.TheVariants as in_source
use Rattle.fp_elf.specs.declared.refusals.ElfNo.{ElfNo}
use Rattle.fp_elf.specs.declared.refusals.ElfNo.TheVariants as in_elf
use Rattle.call_bounds.specs.declared.routines_refusals.RoutinesNo.{RoutinesNo}
use Rattle.call_bounds.specs.declared.routines_refusals.RoutinesNo.TheVariants as in_list
use Rattle.call_bounds.specs.declared.tree.CallNo.{CallNo}
use Rattle.call_bounds.specs.declared.tree.CallNo.TheVariants as in_calls
use Rattle.region_tree.specs.declared.tree.TreeNo.{TreeNo}
use Rattle.region_tree.specs.declared.tree.TreeNo.TheVariants as in_tree
use Rattle.commands.specs.declared.codes.BoundCode.{BoundCode}
use Rattle.commands.specs.declared.codes.BoundCode.TheVariants as in_code
use Rattle.commands.specs.declared.codes.SectionNo.{SectionNo}
use Rattle.commands.specs.declared.codes.SectionNo.TheVariants as in_section
use Rattle.trace_print.specs.declared.refusals.Refusal.{Refusal}
use Rattle.trace_print.specs.declared.refusals.Refusal.TheVariants.{Bound}

abbrev pub setup_code : SetupNo → ℕ
setup_code in_setup.TooLong = 1
setup_code in_setup.Toml = 2
setup_code in_setup.UnknownKey = 3
setup_code in_setup.MissingKey = 4
setup_code in_setup.WrongType = 5
setup_code in_setup.OutOfRange = 6
setup_code in_setup.BadSlot = 7
setup_code in_setup.BadMode = 8
setup_code in_setup.BadRegion = 9
setup_code in_setup.ConfinedPermit = 10
setup_code in_setup.DoubleThread = 11
setup_code in_setup.TooMany = 12

abbrev pub image_code : ImageNo → ℕ
image_code in_image.TooLong = 1
image_code in_image.Magic = 2
image_code in_image.Truncated = 3
image_code in_image.BadSegment = 4
image_code in_image.Overlap = 5
image_code in_image.Trailing = 6

abbrev pub elf_code : ElfNo → ℕ
elf_code in_elf.TooLong = 31
elf_code in_elf.NotElf = 32
elf_code in_elf.Truncated = 33
elf_code in_elf.Class = 34
elf_code in_elf.ByteOrder = 35
elf_code in_elf.Kind = 36
elf_code in_elf.Machine = 37
elf_code in_elf.EntrySize = 38
elf_code in_elf.Dynamic = 39
elf_code in_elf.BadLoad = 40
elf_code in_elf.Overlap = 41
elf_code in_elf.TooManySegments = 42

abbrev pub source_code : AsmNo → ℕ
source_code in_source.TooLong = 1
source_code in_source.Lex = 2
source_code in_source.UnknownName = 3
source_code in_source.Operands = 4
source_code in_source.OutOfRange = 5
source_code in_source.DoubleLabel = 6
source_code in_source.NoLabel = 7
source_code in_source.Misaligned = 8
source_code in_source.OutsideMemory = 9
source_code in_source.Overlap = 10
source_code in_source.TooManySegments = 11

abbrev pub routines_code : RoutinesNo → ℕ
routines_code in_list.TooMany = 1
routines_code in_list.BadLine = 2
routines_code in_list.BadPlace = 3
routines_code in_list.Order = 4

abbrev pub section_code : SectionNo → ℕ
section_code in_section.NotHard = 1
section_code in_section.NoSlot = 2
section_code in_section.Order = 3
section_code in_section.Misaligned = 4
section_code in_section.Outside = 5
section_code in_section.NotConfined = 6

abbrev pub bound_code : BoundCode → ℕ
bound_code in_code.Nesting = 1
bound_code in_code.IndirectJump = 2
bound_code in_code.TimedWait = 3
bound_code in_code.UnboundedBackEdge = 4
bound_code in_code.Overflow = 6
bound_code in_code.Overlap = 8
bound_code in_code.Recursion = 9
bound_code in_code.Escape = 10

-- the refusal of a bound, with an address or a number of cycles
abbrev pub bound_refused : BoundCode → ℕ → Refusal
bound_refused code value = Bound (bound_code code) value

-- why a section has no bound, with the address; out of memory has no line
abbrev pub tree_refusal : TreeNo → Option Refusal
tree_refusal (in_tree.Nesting address) = Some (bound_refused in_code.Nesting address)
tree_refusal (in_tree.IndirectJump address) = Some (bound_refused in_code.IndirectJump address)
tree_refusal (in_tree.TimedWait address) = Some (bound_refused in_code.TimedWait address)
tree_refusal (in_tree.UnboundedBackEdge address) =
    Some (bound_refused in_code.UnboundedBackEdge address)
tree_refusal in_tree.NoMemory = None

-- the same for a section with its routines, whose causes are an enum of their own
abbrev pub call_refusal : CallNo → Option Refusal
call_refusal (in_calls.Nesting address) = Some (bound_refused in_code.Nesting address)
call_refusal (in_calls.IndirectJump address) = Some (bound_refused in_code.IndirectJump address)
call_refusal (in_calls.TimedWait address) = Some (bound_refused in_code.TimedWait address)
call_refusal (in_calls.UnboundedBackEdge address) =
    Some (bound_refused in_code.UnboundedBackEdge address)
call_refusal (in_calls.Overlap address) = Some (bound_refused in_code.Overlap address)
call_refusal (in_calls.Recursion address) = Some (bound_refused in_code.Recursion address)
call_refusal (in_calls.Escape address) = Some (bound_refused in_code.Escape address)
call_refusal in_calls.NoMemory = None
