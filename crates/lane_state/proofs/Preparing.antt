-- The room of a load is enough for it.
use Rattle.std.proofs.Common.{◌≡◌, ℕ, ◌≤◌, Bool, List, [], length, sym, ◌∙◌, arith}
use Rattle.std.specs.List.{AllByRecursion}
use Rattle.std.proofs.lemmas.List.{length-map}
use Rattle.busdma_machine.specs.declared.bounce.door.Grabbed.{Grabbed}
use Rattle.busdma_machine.specs.declared.bounce.door.Grabbed.TheVariants.{Granted, Queued, NoPages}
use Rattle.busdma_machine.specs.declared.machine.address.Pa.{Pa}
use Rattle.busdma_machine.specs.declared.machine.chunk.Chunk.{Chunk}
use Rattle.busdma_machine.specs.declared.tags.tag.TagLimits.{TagLimits}
use Rattle.busdma_machine.specs.declared.name.MapId.{MapId}
use Rattle.busdma_machine.specs.Bounce.Account.{Account}
use Rattle.busdma_machine.specs.Bounce.AccountStep.{as_pages, grabbed}
use Rattle.busdma_machine.specs.Bounce.Door.{grab_reply}
use Rattle.busdma_machine.specs.Machine.Page.{FrameBytes}
use Rattle.busdma_machine.specs.Machine.PageList.{page_address, page_addresses}
use Rattle.lane_agreement.proofs.Whole.{granted-length}
use Rattle.dma_map.specs.declared.room.LoadRoom.{LoadRoom}
use Rattle.busdma_rules.specs.Segments.Trace.{IsPage}
use Rattle.lane_state.specs.Loading.{HasNeed, HasRoomFor, HasRoomForAny, IsWanted}

-- pages have as many addresses
pub pages-count : (ps : List FrameBytes) → length (as_pages (page_addresses ps)) ≡ length ps
pages-count ps = length-map (page_addresses ps) _ ∙ length-map ps page_address

pub room-for : (t : TagLimits) (chunks : List Chunk) (pages : List Pa) (len need segments : ℕ) (room : LoadRoom) →
    IsWanted t chunks len need segments → need ≡ length pages → AllByRecursion IsPage pages →
    room.list.items ≡ [] → room.shown.items ≡ [] → room.bounced.items ≡ [] →
    segments ≤ room.list.spare → segments ≤ room.shown.spare → need ≤ room.bounced.spare →
    HasRoomFor t chunks pages room
room-for t chunks pages len need segments room wanted paged are list shown bounced more shown_more bounced_more =
    let fits = wanted.segments pages are in
    let needs = wanted.need in
    record {
      empty = list;
      empty_copy = shown;
      empty_bounced = bounced;
      paged = omega (arith, needs, paged);
      segments = omega (arith, fits, more);
      copy = omega (arith, fits, shown_more);
      bounced = omega (arith, needs, bounced_more);
    }

-- the room of a load is enough in whichever pages
pub room-for-any : (t : TagLimits) (chunks : List Chunk) (len need segments : ℕ) (room : LoadRoom) →
    IsWanted t chunks len need segments → room.list.items ≡ [] → room.shown.items ≡ [] → room.bounced.items ≡ [] →
    segments ≤ room.list.spare → segments ≤ room.shown.spare → need ≤ room.bounced.spare →
    room.addresses.items ≡ [] → need ≤ room.addresses.spare → HasRoomForAny t chunks need room
room-for-any t chunks len need segments room wanted list shown bounced more shown_more bounced_more addresses few =
    record {
      need = wanted.need;
      empty_addresses = addresses;
      addresses = few;
      any = λ pages are count. room-for t chunks pages len need segments room wanted (sym count) are list shown bounced
          more
          shown_more bounced_more;
    }

-- a load gets as many pages as it needs
pub has-need : (got : Grabbed) (m : MapId) (z need : ℕ) (nowait : Bool) (a : Account) →
    grab_reply got ≡ (grabbed m z need nowait a).reply → HasNeed need got
has-need (Granted pages) m z need nowait a is =
    sym (pages-count pages.items) ∙ granted-length m z need nowait a _ (sym is)
has-need (Queued have) m z need nowait a is = tt
has-need NoPages m z need nowait a is = tt
