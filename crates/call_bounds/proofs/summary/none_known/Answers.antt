use Rattle.call_bounds.proofs.summary.none_known.Goals as goal

pub returns : goal.returns
returns c = (
  c.in_ok-vec.ensures.items_if_clones_equal (λ y h. h),
  c.in_ok-vec-2.ensures.items_if_clones_equal (λ y h. h),
)
