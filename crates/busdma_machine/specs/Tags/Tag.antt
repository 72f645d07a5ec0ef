-- The effective tag of a tag's limits and its parent, and the addresses that need a bounce page, after the arguments of
-- bus_dma_tag_create(9) and the x86 bounce code. The formulas are this project's own.
use Rattle.std.specs.Prelude.{◌≡◌, ◌≢◌, ◌==◌, ◌&&◌, ◌||◌, ◌+◌, ◌-◌, ◌*◌, ◌/◌, ◌%◌, ◌^◌, ◌≤◌, ℕ, Bool, not, nat_lt}
use Rattle.std.specs.Prelude.{nat_le}
use Rattle.std.specs.Prelude.{min, max, Option, Some, None, option_map, if◌then◌else◌}
use Rattle.std.specs.Int.{IsPowerOfTwo}
use Rattle.busdma_machine.specs.declared.tags.tag.SpaceLimits.{SpaceLimits}
use Rattle.busdma_machine.specs.declared.tags.tag.TagLimits.{TagLimits}

-- A number below 2 ^ 64 is a power of two if it divides 2 ^ 64.
abbrev pub is_power_of_two : ℕ → Bool
is_power_of_two n = nat_lt 0 n && 2 ^ 64 % n == 0

-- An alignment is a power of two from 1 to 4096, the bytes of a frame.
abbrev pub is_alignment : ℕ → Bool
is_alignment n = is_power_of_two n && nat_le n 4096

-- A boundary is 0, which means that there is none, or a power of two of at least 16.
abbrev pub is_boundary : ℕ → Bool
is_boundary n = n == 0 || (is_power_of_two n && nat_le 16 n)

-- The greatest length of a segment: `maxsegsz`, cut to a boundary below it.
abbrev pub segment_limit : TagLimits → ℕ
segment_limit t = if t.boundary == 0 then t.maxsegsz else min t.boundary t.maxsegsz

-- The address of the last byte of the frame that an address lies in.
abbrev pub frame_end : ℕ → ℕ
frame_end a = a / 4096 * 4096 + 4095

-- The limits with lowaddr and highaddr raised to the last byte of their frame, and maxsegsz cut to the boundary.
abbrev pub rounded : TagLimits → TagLimits
rounded t = record t {
  lowaddr = record { 0 = frame_end t.lowaddr.0 };
  highaddr = record { 0 = frame_end t.highaddr.0 };
  maxsegsz = segment_limit t;
}

-- The limits are not refused: alignment and boundary are allowed, and a segment can have a byte.
abbrev pub is_accepted : TagLimits → Bool
is_accepted t = is_alignment t.alignment && is_boundary t.boundary && not (segment_limit t == 0)

-- The effective limits of a tag without a parent, or none if its limits are refused.
abbrev pub normal : TagLimits → Option TagLimits
normal t = if is_accepted t then Some (rounded t) else None

-- The limits of an IOMMU tag: no alignment and no flag, and no address above lowaddr is reached.
abbrev pub space_limits : SpaceLimits → TagLimits
space_limits s = record {
  alignment = 1;
  boundary = s.boundary;
  lowaddr = s.lowaddr;
  highaddr = record { 0 = 2 ^ 64 - 1 };
  maxsize = s.maxsize;
  nsegments = s.nsegments;
  maxsegsz = s.maxsegsz;
  flags = 0;
}

-- The smaller of two boundaries; a boundary of 0 means that there is none.
abbrev pub least_boundary : ℕ → ℕ → ℕ
least_boundary a b = if a == 0 then b else if b == 0 then a else min a b

-- A child's limits, narrowed by its parent's. The sizes, the number of segments and the flags are the child's own.
abbrev pub inherit : TagLimits → TagLimits → TagLimits
inherit parent child = record child {
  alignment = max parent.alignment child.alignment;
  boundary = least_boundary parent.boundary child.boundary;
  lowaddr = record { 0 = min parent.lowaddr.0 child.lowaddr.0 };
  highaddr = record { 0 = max parent.highaddr.0 child.highaddr.0 };
}

-- The effective limits of a tag, narrowed by its parent's if it has one, or none if its limits are refused.
abbrev pub effective : Option TagLimits → TagLimits → Option TagLimits
effective None spec = normal spec
effective (Some parent) spec = option_map (inherit parent) (normal spec)

-- The limits that are not refused: the alignment is a power of two up to 4096, a boundary is a power of two of at least
-- 16, and a segment can have a byte.
pub record IsAccepted (spec : TagLimits) : Type 0 where
  pub alignment_power : IsPowerOfTwo spec.alignment
  pub alignment_high : spec.alignment ≤ 4096
  pub boundary_power : spec.boundary ≢ 0 → IsPowerOfTwo spec.boundary
  pub boundary_low : spec.boundary ≢ 0 → 16 ≤ spec.boundary
  pub maxsegsz : 1 ≤ spec.maxsegsz

-- What holds of every effective tag.
pub record IsEffective (t : TagLimits) : Type 0 where
  pub alignment_power : IsPowerOfTwo t.alignment
  pub alignment_low : 1 ≤ t.alignment
  pub alignment_high : t.alignment ≤ 4096
  pub boundary_power : t.boundary ≢ 0 → IsPowerOfTwo t.boundary
  pub boundary_low : t.boundary ≢ 0 → 16 ≤ t.boundary
  pub maxsegsz : 1 ≤ t.maxsegsz
  pub lowaddr : t.lowaddr.0 % 4096 ≡ 4095
  pub highaddr : t.highaddr.0 % 4096 ≡ 4095

-- The device cannot reach the address: it lies above lowaddr, and not above highaddr.
abbrev pub excluded : TagLimits → ℕ → Bool
excluded t a = nat_lt t.lowaddr.0 a && nat_le a t.highaddr.0

-- A load of the tag could bounce, if frame numbers are below maxmem: its lowaddr is below the end of memory, or its
-- alignment is above 1.
abbrev pub could_bounce : TagLimits → ℕ → Bool
could_bounce t maxmem = nat_lt t.lowaddr.0 (4096 * maxmem) || nat_lt 1 t.alignment

-- The address needs a bounce page, if frame numbers are below maxmem: the tag could bounce, and the device cannot reach
-- the address or the address is not aligned.
abbrev pub needs_bounce : TagLimits → ℕ → ℕ → Bool
needs_bounce t maxmem a = could_bounce t maxmem && (excluded t a || not (a % t.alignment == 0))
