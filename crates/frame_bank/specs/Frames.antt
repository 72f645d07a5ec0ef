-- What contracts see of a free frame.
use Rattle.std.specs.Prelude.{◌<◌, ◌^◌}
use Rattle.busdma_machine.specs.Machine.Page.{FrameBytes}
use Rattle.frame_bank.specs.declared.frame.State.{State}
use Rattle.frame_bank.specs.declared.frame.State.TheVariants.{Fresh, Back}
use Rattle.frame_bank.specs.FrameBank.{fresh_page}

-- the page of a free frame: with the bytes of a new bank, or with those that it came back with
abbrev pub page_of : State → FrameBytes
page_of (Fresh number) = fresh_page number
page_of (Back page) = page

-- the number of a free frame is below 2^30
abbrev pub IsBankNumbered : State → Type 0
IsBankNumbered (Fresh number) = number < 2 ^ 30
IsBankNumbered (Back page) = page.frame < 2 ^ 30
