use Rattle.std.proofs.Common.{◌≡◌, ◌+◌, ◌-◌, ◌&&◌, ℕ, true, false, slice_index_or, vec_len}
use Rattle.std.specs.Prelude.{nat_le, nat_lt, if◌then◌else◌}
use Rattle.fp_elf.proofs.memory.Memory.load.Given as goal

abbrev pub invariant-loop-step : goal.invariant-loop-step
invariant-loop-step l =
    record {
      taken_len : vec_len l.self.taken ≡ 131072;
      bytes_len : vec_len l.self.bytes ≡ 131072;
      taken : (k : ℕ) → slice_index_or l.self.taken.items k false ≡ (if nat_le l.index k && nat_lt k
          (l.index + l.step) then true
          else slice_index_or l.fn.self.taken.items k false);
      bytes : (k : ℕ) → slice_index_or l.self.bytes.items k 0
          ≡ (if nat_le l.index k && nat_lt k (l.index + l.step)
          then slice_index_or l.source
          (k - l.index) 0
          else slice_index_or l.fn.self.bytes.items k 0);
    }
