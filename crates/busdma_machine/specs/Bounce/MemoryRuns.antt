-- The frames of a dmamem memory, after bus_dmamem_alloc(9). That the lowest run is taken is this project's own rule.
use Rattle.std.specs.Prelude.{ℕ, zero, suc, ◌+◌, ◌*◌, ◌/◌, ◌%◌, max, Bool, true, false, not, ◌&&◌, ◌||◌, List, [], ◌∷◌}
use Rattle.std.specs.Prelude.{◌++◌, Option, Some, None, ◌==◌, nat_le, nat_lt, if◌then◌else◌}
use Rattle.std.specs.List.{filter}
use Rattle.busdma_machine.specs.declared.name.MapId.{MapId}
use Rattle.busdma_machine.specs.Bounce.Account.{Account, Memory, same_map}

-- how many frames a memory of `len` bytes has, at least one
abbrev pub frames_for : ℕ → ℕ
frames_for len = max 1 ((len + 4095) / 4096)

-- a list begins with n frames that follow one another in memory, from f on
abbrev pub follow : ℕ → ℕ → List ℕ → Bool
follow zero f fs = true
follow (suc n) f [] = false
follow (suc n) f (g ∷ gs) = (g == f) && follow n (f + 4096) gs

-- the `len` bytes from f on cross no multiple of the boundary; a boundary of 0 means that there is none
abbrev pub crosses_none : ℕ → ℕ → ℕ → Bool
crosses_none len boundary f = (boundary == 0) || nat_le (f % boundary + len) boundary

-- a list of rising frames begins with frames for a memory of `len` bytes: they follow one another, end at or below the
-- limit, and the bytes cross no multiple of the boundary
abbrev pub begins_run : ℕ → ℕ → ℕ → List ℕ → Bool
begins_run len boundary limit [] = false
begins_run len boundary limit (f ∷ fs) =
    follow (frames_for len) f (f ∷ fs)
    && (nat_le (f + 4096 * frames_for len) (limit + 1) && crosses_none len boundary f)

-- the lowest of the rising free frames at which a memory of `len` bytes can begin, if there is one
abbrev pub lowest_run : ℕ → ℕ → ℕ → List ℕ → Option ℕ
lowest_run len boundary limit [] = None
lowest_run len boundary limit (f ∷ fs) =
    if begins_run len boundary limit (f ∷ fs) then Some f else lowest_run len boundary limit fs

-- the addresses of the n frames that follow one another from `first` on
abbrev pub frames_from : ℕ → ℕ → List ℕ
frames_from zero first = []
frames_from (suc n) first = first ∷ frames_from n (first + 4096)

-- an address lies in the n frames from the address `first` on
abbrev pub in_run : ℕ → ℕ → ℕ → Bool
in_run first n f = nat_le first f && nat_lt f (first + 4096 * n)

-- the frames of a list that are among the n frames from `first` on
abbrev pub frames_in : ℕ → ℕ → List ℕ → List ℕ
frames_in first n frames = filter (in_run first n) frames

-- the frames of a list that are not among the n frames from `first` on
abbrev pub frames_but : ℕ → ℕ → List ℕ → List ℕ
frames_but first n frames = filter (λ f. not (in_run first n f)) frames

-- the account after the n frames from `first` on went from the bank to a memory
abbrev pub with_memory_run : Account → MapId → ℕ → ℕ → Account
with_memory_run a m first n = record a {
  bank = frames_but first n a.bank;
  mems = a.mems ++ record { mem = m; frames = frames_in first n a.bank } ∷ [];
}

-- a list of rising frames with one more, in its place
abbrev pub put_in : ℕ → List ℕ → List ℕ
put_in f [] = f ∷ []
put_in f (g ∷ gs) = if nat_lt f g then f ∷ g ∷ gs else g ∷ put_in f gs

-- a list of rising frames with more of them, each in its place
abbrev pub put_all : List ℕ → List ℕ → List ℕ
put_all [] gs = gs
put_all (f ∷ fs) gs = put_in f (put_all fs gs)

-- the frames of the memory with this name
abbrev pub frames_of : MapId → List Memory → List ℕ
frames_of m [] = []
frames_of m (x ∷ xs) = if same_map m x.mem then x.frames ++ frames_of m xs else frames_of m xs

-- the account after the frames of a memory returned to the bank
abbrev pub without_memory_run : Account → MapId → Account
without_memory_run a m = record a {
  bank = put_all (frames_of m a.mems) a.bank;
  mems = filter (λ x. not (same_map m x.mem)) a.mems;
}
