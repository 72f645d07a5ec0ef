-- What is true of each deferred load.
use Rattle.std.specs.Prelude.{◌≡◌, ◌<◌, ◌≤◌, [], vec_capacity}
use Rattle.wait_list.specs.declared.deferred.Deferred.{Deferred}

-- the lists of a deferred load are empty, and have room for all its pages
pub record IsReserved (d : Deferred) : Type 0 where
  pub no_page : d.pages.items ≡ []
  pub page_room : d.waiter.need ≤ d.pages.room
  pub no_address : d.addresses.items ≡ []
  pub address_room : d.waiter.need ≤ vec_capacity d.addresses

-- the load still waits: it lacks pages
pub record IsWaiting (d : Deferred) : Type 0 where
  pub reserved : IsReserved d
  pub lacks : d.waiter.have < d.waiter.need
