-- Which zone a tag has, and how zones grow, after the x86 bounce code. The formulas are this project's own.
use Rattle.std.specs.Prelude.{ℕ, suc, ◌+◌, ◌-◌, ◌/◌, min, max, Bool, not, ◌&&◌, ◌||◌, List, [], ◌∷◌, ◌++◌, length}
use Rattle.std.specs.Prelude.{take, drop, ◌==◌, nat_le, nat_lt, if◌then◌else◌}
use Rattle.std.specs.List.{count_by, filter}
use Rattle.busdma_machine.specs.declared.name.MapId.{MapId}
use Rattle.busdma_machine.specs.declared.tags.tag.TagLimits.{TagLimits}
use Rattle.busdma_machine.specs.declared.bounce.zone.Grown.{Grown}
use Rattle.busdma_machine.specs.Bounce.Account.{Account, Zone, no_zone, zone_at, with_zone, same_map, total}

-- pages with this alignment, at or below this lowaddr, are aligned as the tag asks and lie as low as the tag asks
abbrev pub bounds_serve : TagLimits → ℕ → ℕ → Bool
bounds_serve t lowaddr alignment = nat_le t.alignment alignment && nat_le lowaddr t.lowaddr.0

-- the zone's pages are aligned as the tag asks and lie as low as the tag asks
abbrev pub serves_tag : TagLimits → Zone → Bool
serves_tag t z = bounds_serve t z.lowaddr z.alignment

-- a new zone for a tag, with nothing in it
abbrev pub new_zone : TagLimits → Zone
new_zone t = record no_zone { lowaddr = t.lowaddr.0; alignment = max t.alignment 4096 }

-- the zones, followed by a new one if no zone serves the tag
abbrev pub zones_for : TagLimits → List Zone → List Zone
zones_for t [] = new_zone t ∷ []
zones_for t (z ∷ zs) = z ∷ (if serves_tag t z then zs else zones_for t zs)

-- the place of the first element that passes a test, or the length of the list if no element does
abbrev pub first_place : {X : Type 0} → (X → Bool) → List X → ℕ
first_place test [] = 0
first_place test (x ∷ xs) = if test x then 0 else suc (first_place test xs)

-- the number of the first zone that serves the tag, or of the one that is made for it
abbrev pub zone_for_tag : TagLimits → List Zone → ℕ
zone_for_tag t zs = first_place (serves_tag t) zs

-- the account with a zone that serves the tag
abbrev pub with_zone_for : TagLimits → Account → Account
with_zone_for t a = record a { zones = zones_for t a.zones }

-- how many of these frames end at or below an address
abbrev pub frames_below : ℕ → List ℕ → ℕ
frames_below limit bank = count_by (λ f. nat_le (f + 4095) limit) bank

-- how many of the wanted pages a zone can get from the free frames
abbrev pub added : Account → ℕ → ℕ → ℕ
added a z wanted = min wanted (frames_below (zone_at a z).lowaddr a.bank)

-- the account after the lowest n free frames moved to the tail of a zone's list
abbrev pub grown : Account → ℕ → ℕ → Account
grown a z n =
    let zone : Zone = zone_at a z in
    with_zone (record a { bank = drop n a.bank }) z (record zone { avail = zone.avail ++ take n a.bank })

-- how many pages the first allocation of a tag wants for a zone that has `pages` of them
abbrev pub wanted_by_tag : TagLimits → ℕ → ℕ
wanted_by_tag t pages = t.maxsize / 4096 - pages

-- up to how many pages a zone that has maps grows for further maps of a tag, from the two constants; a first allocation
-- can pass that number
abbrev pub most_pages : TagLimits → ℕ → ℕ → ℕ
most_pages t max_bpages maxmem =
    if nat_lt 1 t.alignment then max_bpages else min max_bpages (maxmem - t.lowaddr.0 / 4096)

-- up to how many pages a zone that has maps grows for further maps of a tag, in an account
abbrev pub maxpages : TagLimits → Account → ℕ
maxpages t a = most_pages t a.max_bpages a.maxmem

-- making a map asks for pages if its tag's first allocation is still to be done, or if its zone has a map and can still
-- grow
abbrev pub wants_pages : Bool → ℕ → ℕ → ℕ → Bool
wants_pages first_done maps pages most = not first_done || (nat_lt 0 maps && nat_lt pages most)

-- how many pages making a map wants, if its zone has `maps` maps and `pages` pages and can grow to `most`
abbrev pub wanted_for : TagLimits → Bool → ℕ → ℕ → ℕ → ℕ
wanted_for t first_done maps pages most =
    if wants_pages first_done maps pages most
    then max 1 (min (most - pages) (min t.nsegments (max 1 (t.maxsize / 4096)))) else 0

-- how many pages making a map wants for its zone, if the zone has `pages` pages and can grow to `most`
abbrev pub wanted_by_map : TagLimits → Bool → Zone → ℕ → ℕ → ℕ
wanted_by_map t first_done zone pages most = wanted_for t first_done (length zone.maps) pages most

-- what the first allocation of a tag adds to a zone; it is made if all wanted pages came
abbrev pub growth_for_tag : TagLimits → Account → ℕ → Grown
growth_for_tag t a z =
    let wanted : ℕ = wanted_by_tag t (total a z) in
    let n : ℕ = added a z wanted in
    record { zone = record { 0 = z }; added = n; made = n == wanted }

-- what making a map adds to a zone; the map is made if the first allocation of its tag was done before, or if all
-- wanted pages came
abbrev pub growth_for_map : TagLimits → Bool → Account → ℕ → Grown
growth_for_map t first_done a z =
    let wanted : ℕ = wanted_by_map t first_done (zone_at a z) (total a z) (maxpages t a) in
    let n : ℕ = added a z wanted in
    record { zone = record { 0 = z }; added = n; made = first_done || n == wanted }

-- the account after a map joined the maps of a zone
abbrev pub with_zone_map : Account → ℕ → MapId → Account
with_zone_map a z m = let zone : Zone = zone_at a z in with_zone a z (record zone { maps = zone.maps ++ m ∷ [] })

-- the account after a map left the maps of a zone
abbrev pub without_zone_map : Account → ℕ → MapId → Account
without_zone_map a z m =
    let zone : Zone = zone_at a z in
    with_zone a z (record zone { maps = filter (λ n. not (same_map m n)) zone.maps })
