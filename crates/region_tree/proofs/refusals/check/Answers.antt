use Rattle.region_tree.proofs.refusals.check.Goals as goal

pub returns-in-Some-clause-allowed : goal.returns-in-Some-clause-allowed
returns-in-Some-clause-allowed c = c.in-Some.ensures

pub returns-in-Some-stopped-clause-allowed : goal.returns-in-Some-stopped-clause-allowed
returns-in-Some-stopped-clause-allowed c = (c.in_default.ensures, c.in-Some-stopped.ensures)

pub returns-in-Some-stopped-2-clause-allowed : goal.returns-in-Some-stopped-2-clause-allowed
returns-in-Some-stopped-2-clause-allowed c =
    (c.in_default.ensures, c.in_default-stopped.ensures, c.in-Some-stopped-2.ensures)

pub returns-in-Some-unbounded-clause-allowed : goal.returns-in-Some-unbounded-clause-allowed
returns-in-Some-unbounded-clause-allowed c = (
  c.in_default.ensures,
  c.in_default-stopped.ensures,
  c.in_default-stopped-2.ensures,
  c.in-Some-unbounded.ensures,
)

pub returns-clause-allowed : goal.returns-clause-allowed
returns-clause-allowed c = record {
  nesting = c.in_default.ensures;
  indirect = c.in_default-stopped.ensures;
  timed = c.in_default-stopped-2.ensures;
  unbounded = c.in_default-unbounded.ensures;
}
