-- The bytes that are really held, and the copies between buffers and bounce pages.
use Rattle.std.specs.Prelude.{ℕ, ◌/◌, ◌%◌, Bool, not, ◌==◌, List, [], ◌∷◌, map, take, drop, slice_index, if◌then◌else◌}
use Rattle.std.specs.List.{filter}
use Rattle.busdma_machine.specs.Machine.Page.{FrameBytes}

-- the byte at each physical address, in a driver's own frames and in the bounce pages of its maps
abbrev pub Wire : Type 0
Wire = ℕ → ℕ

-- the byte of a page at an address of its frame
abbrev pub page_byte : FrameBytes → ℕ → ℕ
page_byte p a = slice_index p.bytes (a % 4096)

-- the wire on which each of these pages has its own bytes, and all other addresses have the bytes of w
abbrev pub with_bytes_of : List FrameBytes → Wire → Wire
with_bytes_of [] w a = w a
with_bytes_of (p ∷ ps) w a = if a / 4096 == p.frame then page_byte p a else with_bytes_of ps w a

-- A position of a load. `pa` is the physical address of its byte. `bus` is the physical address at which the device's
-- access arrives: in a bounce page, or the byte's own. In a load of an IOMMU tag's map it is not the device address.
pub record Placed : Type 0 where
  pub pa : ℕ
  pub bus : ℕ

-- the traces of loaded maps: of each map the positions of its load, in order
abbrev pub Traces : Type 0
Traces = ℕ → List Placed

-- the byte is bounced: the device does not reach it at its own address
abbrev pub is_bounced : Placed → Bool
is_bounced p = not (p.bus == p.pa)

-- the physical addresses of positions, in order
abbrev pub buffers : List Placed → List ℕ
buffers ps = map (λ p. p.pa) ps

-- the physical addresses at which the device reaches the bytes of these positions, in order
abbrev pub buses : List Placed → List ℕ
buses ps = map (λ p. p.bus) ps

-- the `len` positions of a load from `off` on
abbrev pub stretch : {A : Type 0} → ℕ → ℕ → List A → List A
stretch {A} off len ps = take len (drop off ps)

-- the wire after these bytes are written at these addresses, in order
abbrev pub put : List ℕ → List ℕ → Wire → Wire
put [] vs w = w
put (a ∷ rest) [] w = w
put (a ∷ rest) (v ∷ vs) w = put rest vs (λ b. if b == a then v else w b)

-- the wire after each bounced byte of these positions is copied into its bounce page
abbrev pub copied_in : List Placed → Wire → Wire
copied_in ps w = put (buses (filter is_bounced ps)) (map w (buffers (filter is_bounced ps))) w

-- the wire after each bounced byte of these positions is copied back from its bounce page
abbrev pub copied_out : List Placed → Wire → Wire
copied_out ps w = put (buffers (filter is_bounced ps)) (map w (buses (filter is_bounced ps))) w
