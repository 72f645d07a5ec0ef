-- The limits of a scenario.
use Rattle.std.specs.Prelude.{ℕ, ◌^◌}

-- the greatest number of frames of a machine
abbrev pub frames_limit : ℕ
frames_limit = 8192

-- the end of frame numbers: each is below this
abbrev pub frame_numbers : ℕ
frame_numbers = 2 ^ 30

-- the greatest max_bpages: the pages up to which a zone that has maps grows for further maps
abbrev pub bpages_limit : ℕ
bpages_limit = 8192

-- the greatest number of drivers
abbrev pub drivers_limit : ℕ
drivers_limit = 16

-- the greatest number of actors in the order of a scenario
abbrev pub order_limit : ℕ
order_limit = 65536

-- the greatest number of operations and items of a driver's script, taken together
abbrev pub steps_limit : ℕ
steps_limit = 4096

-- the greatest number of spans or frames of one load
abbrev pub entries_limit : ℕ
entries_limit = 4096

-- the greatest number of bytes of one access
abbrev pub access_limit : ℕ
access_limit = 4096

-- the greatest number of bytes that all drivers and devices of a scenario read by `cpu_read`, `dev_read` and
-- `dev_read_at`, taken together; what steps of rings and resends read is not counted
abbrev pub reads_limit : ℕ
reads_limit = 1048576

-- the greatest number of bytes of one load
abbrev pub buffer_limit : ℕ
buffer_limit = 1048576

-- the greatest number of bytes of all loads of a scenario, taken together
abbrev pub loaded_limit : ℕ
loaded_limit = 16777216
