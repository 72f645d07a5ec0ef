-- The device addresses of an access of an IOMMU tag's address space, in the order in which the code walks over them.
use Rattle.std.specs.Prelude.{◌≡◌, ℕ, ◌+◌, ◌/◌, ◌%◌, ◌<◌, ◌≤◌, ◌^◌, ◌==◌, Bool, true, false, ◌&&◌, List, [], ◌∷◌}
use Rattle.std.specs.Prelude.{Option, Some, None, if◌then◌else◌, nat_le, nat_lt, option_map, slice_get}
use Rattle.std.specs.FinMap.{FinMap, get}
use Rattle.std.specs.List.{AllByRecursion}
use Rattle.std.specs.Ordering.{nat_cmp}
use Rattle.busdma_machine.specs.declared.machine.address.Extent.{Extent}
use Rattle.busdma_machine.specs.declared.machine.address.Segment.{Segment}
use Rattle.busdma_machine.specs.declared.report.ReportName.{ReportName}
use Rattle.busdma_machine.specs.declared.report.ReportName.TheVariants.{DeviceReadUnlent, DeviceWriteUnlent}
use Rattle.dma_map.specs.MapView.{segments_of}
use Rattle.busdma_rules.specs.declared.position.Position.{Position}
use Rattle.busdma_rules.specs.Lending.Access.{dev_read_refusal, dev_write_refusal}
use Rattle.busdma_rules.specs.Lending.Loans.{Loans, loan_of}
use Rattle.busdma_rules.specs.Segments.Obeying.{segments_bytes}
use Rattle.ideal_lane.specs.Accesses.{place_in, raw_refusal}
use Rattle.ideal_lane.specs.IdealMemory.{is_known}
use Rattle.ideal_lane.specs.State.{LaneState}
use Rattle.lane_state.specs.declared.kept.KeptMap.{KeptMap}
use Rattle.lane_access.specs.declared.raw.Beginning.{Beginning}
use Rattle.lane_access.specs.declared.raw.LoadPlace.{LoadPlace}
use Rattle.lane_access.specs.declared.raw.RawAccess.{RawAccess}
use Rattle.lane_access.specs.declared.raw.RawAccess.TheVariants.{Read, Write}

-- the name of the report about an address that is in no load
abbrev pub unlent_of : RawAccess → ReportName
unlent_of Read = DeviceReadUnlent
unlent_of Write = DeviceWriteUnlent

-- the refusal of an access of a position, which must be lent for it
abbrev pub lent_refusal : RawAccess → LaneState → Position → Option ReportName
lent_refusal Read l = dev_read_refusal (is_known l.memory) false
lent_refusal Write l = dev_write_refusal false

-- the refusal of an access at a device address of a tag
abbrev pub refusal_of : RawAccess → LaneState → ℕ → ℕ → Option ReportName
refusal_of access l = raw_refusal (unlent_of access) (lent_refusal access l) l

-- `n` addresses from `a` on are among the bytes of segments at places in a row from this place on, or are not among
-- them
abbrev pub IsFoundIn : List Segment → ℕ → ℕ → Option ℕ → Type 0
IsFoundIn ss a n place = (i : ℕ) → i < n → place_in 0 ss (a + i) ≡ option_map (λ p. p + i) place

-- the position at this distance from a place of a load, if there is a place
abbrev pub position_at : Loans → Option LoadPlace → ℕ → Option Position
position_at loans None i = None
position_at loans (Some p) i = slice_get (loan_of loans p.map).positions (p.at + i)

-- the `n` bytes of a load from a place on are bytes of the segments of a map of this tag
pub record IsStanding (maps : FinMap nat_cmp KeptMap) (t : ℕ) (p : LoadPlace) (n : ℕ) : Type 0 where
  pub map : KeptMap
  pub there : get maps p.map ≡ Some map
  pub tag : map.tag ≡ t
  pub within : p.at + n ≤ segments_bytes (segments_of map.map.stage)

-- the segments of each map of this tag have fewer than 2^64 bytes
abbrev pub AreShortOf : ℕ → List (ℕ × KeptMap) → Type 0
AreShortOf t es = AllByRecursion (λ e. e.1.tag ≡ t → segments_bytes (segments_of e.1.map.stage) < 2 ^ 64) es

-- a load that begins at this page begins after the last one, if there is one
abbrev pub is_later : Option Beginning → ℕ → Bool
is_later None page = true
is_later (Some last) page = nat_lt last.page page

-- the load of a map with these segments if it begins at or before this page and after the last load that does so, or
-- else that last load
abbrev pub later : ℕ → Option Beginning → ℕ → List Segment → Option Beginning
later page last m [] = last
later page last m (s ∷ ss) =
    if nat_le (s.addr.0 / 4096) page && is_later last (s.addr.0 / 4096)
    then Some (record { map = m; page = s.addr.0 / 4096 }) else last

-- of this load and the loads of a tag's maps, the one that begins last at or before this page
abbrev pub last_of : ℕ → ℕ → Option Beginning → List (ℕ × KeptMap) → Option Beginning
last_of t page last [] = last
last_of t page last (e ∷ es) =
    last_of t page (if e.1.tag == t then later page last e.0 (segments_of e.1.map.stage) else last) es

-- an extent has a byte, and does not reach past the end of its frame
pub record IsInFrame (e : Extent) : Type 0 where
  pub some : 0 < e.len
  pub in_frame : e.pa.0 % 4096 + e.len ≤ 4096
