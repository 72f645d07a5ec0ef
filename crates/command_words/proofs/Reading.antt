-- What clap makes of the words of a command line: one of `replay`, `run`, `check` and `storm`, with words of
-- which only the shape is known.
use Rattle.std.proofs.Common.{◌≡◌, ◌∙◌, ℕ, ◌==◌, Bool, cond, true, false, List, [], ◌∷◌, refl, sym, ap, ap₂, codes}
use Rattle.std.proofs.Common.{option_map}
use Rattle.std.proofs.Common.{◌||◌, Option, Some, None, fold, is_some, subst, true≢false, inl, inr}
use Rattle.std.proofs.lemmas.Bool.Decides.{same_from_decides, Decides-like}
use Rattle.std.specs.Prelude.{find, unwrap_or}
use Rattle.std.specs.Str.{bytes_eq}
use Rattle.std.specs.List.{list_any}
use Rattle.std.proofs.lemmas.Slice.Eq.{bytes_eq-Decides}
use Rattle.std.specs.Prelude.{option_and_then}
use Rattle.std.specs.Option.{option_map_or}
use Rattle.clap.specs.Lexer.{long_of, long_of_rest, short_of, short_of_rest, strip_byte}
use Rattle.clap.specs.Kinds.{HasKind, Kinds, or_else}
use Rattle.clap.specs.Values.{kind_of}
use Rattle.clap.specs.declared.error.Error.{Error}
use Rattle.clap.specs.declared.parser.matches.ArgMatches.{ArgMatches}
use Rattle.clap.specs.declared.error.kind.ErrorKind.{ErrorKind}
use Rattle.clap.specs.declared.error.kind.ErrorKind.TheVariants as kind
use Rattle.clap.specs.Walk.{Held, Names, Rule, Step, Text, Walk, after_step, answers_to, arg_by_index, finished, idle}
use Rattle.clap.specs.Walk.{long_or_other, nothing_held, settled, short_or_plain, subcommand_or_other, to_positional}
use Rattle.clap.specs.Walk.{trailing, value, walk, walk_from, walked}
use Rattle.clap.specs.Simple.{App, HasMatchesOf, Shape, built, entered, is_simple, label_of, names_of, subcommand_of}
use Rattle.clap.specs.Simple.{subcommand_rows_of}
use Rattle.clap.specs.Faults.{bundle_fault, entered_fault, fault_of, flag_word_fault, is_simple_and_free, other_fault}
use Rattle.clap.specs.Faults.{settle_fault, defaults_fault, check_fault, step_fault, turn_fault, walk_fault}
use Rattle.clap.proofs.OnLiterals.{clap_on_literals}
use Rattle.clap.proofs.WalkLemmas.{walk_stopped}
use Rattle.clap.proofs.FaultLemmas.{stopped_fault}
use Rattle.program_rules.specs.Commands.Words.{command, storm_command}
use Rattle.command_words.specs.Line.{is_flag, line, met, storm_arguments as storm_line}

neither : (a b : Bool) → (a || b) ≡ false → (a ≡ false) × (b ≡ false)
neither true b is = absurd (true≢false is)
neither false b is = (refl, is)

-- ---- a word that is no flag and names nothing

module _ (x : ℕ) (xs : Text) (plain : (x == 45) ≡ false) where
  no_dashes : bytes_eq (x ∷ xs) (45 ∷ 45 ∷ []) ≡ false
  no_dashes = rw plain refl

  no_hyphen : strip_byte 45 (x ∷ xs) ≡ None
  no_hyphen = ap (λ b. cond b (Some xs) None) plain

  not_long : long_of (x ∷ xs) ≡ None
  not_long = ap (λ o. option_and_then long_of_rest (option_and_then (strip_byte 45) o)) no_hyphen

  not_short : short_of (x ∷ xs) ≡ None
  not_short = ap (λ o. option_and_then short_of_rest o) no_hyphen

no_flag_met : (rules : List Rule) (position : ℕ) (word : Text) (h : Held) → is_flag word ≡ false
    → subcommand_or_other rules None idle position word h ≡ (h, value)
no_flag_met rules position [] h plain = refl
no_flag_met rules position (x ∷ xs) h plain =
    ap (λ b. cond b (h, trailing position) (long_or_other rules idle (x ∷ xs) (long_of (x ∷ xs)) h))
    (no_dashes x xs plain)
    ∙ ap (λ o. long_or_other rules idle (x ∷ xs) o h) (not_long x xs plain)
    ∙ ap (λ o. short_or_plain rules idle (x ∷ xs) o h) (not_short x xs plain)

no_flag_fault : (s : Shape) (word : Text) (h : Held) → is_flag word ≡ false
    → other_fault s None word h ≡ []
no_flag_fault s [] h plain = refl
no_flag_fault s (x ∷ xs) h plain =
    let of_long : Option (Text × Option Text) → Kinds =
    λ o. flag_word_fault s.rules s.args_override_self o (x ∷ xs) h in
    ap (λ b. cond b [] (of_long (long_of (x ∷ xs)))) (no_dashes x xs plain)
    ∙ ap of_long (not_long x xs plain)
    ∙ ap (λ o. option_map_or (λ flags. bundle_fault s.rules s.args_override_self flags h) o [])
    (not_short x xs plain)

-- the place of a walk that waits for nothing
abbrev at : Held → ℕ → Walk
at h position =
    record { held = h; waiting = idle; position = position; is_trailing = false; stopped = None }

module _ (s : Shape) (names : Names) (h : Held) (position : ℕ) (word : Text) where
  abbrev turn_of : Option Text → Kinds
  turn_of o =
      let met = subcommand_or_other s.rules o idle position word h in
      or_else (other_fault s o word h) (step_fault s position met.0 met.1)

  stray_turn : find (answers_to word) names ≡ None → is_flag word ≡ false
      → turn_fault s names (at h position) word ≡ step_fault s position h value
  stray_turn unnamed plain =
      ap (λ o. turn_of (option_map (λ p. p.0) o)) unnamed
      ∙ ap₂ (λ (ks : Kinds) (p : Held × Step). or_else ks (step_fault s position p.0 p.1))
      (no_flag_fault s word h plain) (no_flag_met s.rules position word h plain)

module _ (rules : List Rule) (names : Names) (h : Held) (position : ℕ) (word : Text) where
  stray_walk : find (answers_to word) names ≡ None → is_flag word ≡ false
      → walked rules names (at h position) word
      ≡ to_positional rules (arg_by_index rules position) word (at h position) h
  unfolding walked
  stray_walk unnamed plain =
      ap (λ (p : Held × Step). after_step rules word (at h position) p.0 p.1)
      (ap (λ o. subcommand_or_other rules (option_map (λ p. p.0) o) idle position word h) unnamed
      ∙ no_flag_met rules position word h plain)

-- ---- a level of the parse, by where its walk ends

abbrev level : Shape → Walk → Bool → Kinds → Kinds → Kinds
level s w has below faults =
    or_else faults
    (or_else below (or_else (settle_fault s.rules s.args_override_self w.held)
    (or_else (defaults_fault (settled s.rules w.held).rows s.rules)
    (check_fault s (finished s.rules w.held) has))))

abbrev app : App
app = built line

abbrev names : Names
names = names_of app

abbrev begin : Walk
begin = walk_from nothing_held

-- the top level
abbrev from_walk : Walk → Kinds → Kinds
from_walk w faults =
    level app.top w (is_some (entered app w.stopped)) (entered_fault app w.stopped) faults

-- the place of the walk after the name of a command
abbrev stopped_at : Text → List Text → Walk
stopped_at name rest = record begin { stopped = Some (name, rest) }

-- ---- what is to be shown of a list of words

abbrev pub Fits : List Text → Type 0
Fits words = (fault_of line words ≡ [] → met (subcommand_of line words) ≡ command words)
    × ((fault_of line words ≡ [] → ⊥) → command words ≡ None)

refused : (words : List Text) (k : ErrorKind) (ks : Kinds) → fault_of line words ≡ k ∷ ks
    → command words ≡ None → Fits words
refused words k ks fails none =
    (λ well. let bad : [] ≡ k ∷ ks = sym well ∙ fails in absurd (cc), λ _. none)

taken : (words : List Text) → fault_of line words ≡ []
    → met (subcommand_of line words) ≡ command words → Fits words
taken words well is = (λ _. is, λ fails. absurd (fails well))

-- ---- storm

abbrev storm_shape : Shape
storm_shape = unwrap_or (find (λ s. answers_to (codes "storm") (label_of s)) app.subs) storm_line.top

storm_stops : (rest : List Text)
    → walk app.top.rules names nothing_held (codes "storm" ∷ rest) ≡ stopped_at (codes "storm") rest
unfolding clap_on_literals
storm_stops rest = sym (walk_stopped app.top.rules names begin (codes "storm") [] rest)

storm_unfaulted : (rest : List Text)
    → walk_fault app.top names begin (codes "storm" ∷ rest) ≡ []
unfolding clap_on_literals
storm_unfaulted rest = stopped_fault app.top names begin (codes "storm", []) rest

storm_fault : (rest : List Text) → fault_of line (codes "storm" ∷ rest)
    ≡ from_walk (stopped_at (codes "storm") rest) []
unfolding clap_on_literals
storm_fault rest = ap₂ from_walk (storm_stops rest) (storm_unfaulted rest)

module _ (n : Text) (plain_n : is_flag n ≡ false) where
  -- the place of the walk after N
  abbrev after_n : Walk
  after_n = to_positional storm_shape.rules (arg_by_index storm_shape.rules 1) n (at nothing_held 1) nothing_held

  walk_n : walked storm_shape.rules [] begin n ≡ after_n
  walk_n = stray_walk storm_shape.rules [] nothing_held 1 n refl plain_n

  fault_n : (rest : List Text) → walk_fault storm_shape [] begin (n ∷ rest)
      ≡ walk_fault storm_shape [] after_n rest
  unfolding clap_on_literals
  fault_n rest =
      ap₂ or_else (stray_turn storm_shape [] nothing_held 1 n refl plain_n)
      (ap (λ w. walk_fault storm_shape [] w rest) walk_n)

  one_word : fault_of line (codes "storm" ∷ n ∷ []) ≡ kind.MissingRequiredArgument ∷ []
  unfolding clap_on_literals
  one_word = storm_fault (n ∷ [])
      ∙ ap₂ (λ w faults. level app.top (stopped_at (codes "storm") (n ∷ [])) true
      (level storm_shape w false [] faults) [])
      walk_n (fault_n [])

  module _ (seed : Text) (plain_seed : is_flag seed ≡ false) where
    -- the place of the walk after SEED
    abbrev after_seed : Walk
    after_seed = to_positional storm_shape.rules (arg_by_index storm_shape.rules 2) seed after_n after_n.held

    walk_seed : (more : List Text) → walk storm_shape.rules [] nothing_held (n ∷ seed ∷ more)
        ≡ fold (walked storm_shape.rules []) after_seed more
    walk_seed more = ap (λ w. fold (walked storm_shape.rules []) w more)
        (ap (λ w. walked storm_shape.rules [] w seed) walk_n
        ∙ stray_walk storm_shape.rules [] after_n.held 2 seed refl plain_seed)

    fault_seed : (more : List Text) → walk_fault storm_shape [] begin (n ∷ seed ∷ more)
        ≡ walk_fault storm_shape [] after_seed more
    unfolding clap_on_literals
    fault_seed more = fault_n (seed ∷ more)
        ∙ ap₂ or_else (stray_turn storm_shape [] after_n.held 2 seed refl plain_seed)
        (ap (λ w. walk_fault storm_shape [] w more)
        (stray_walk storm_shape.rules [] after_n.held 2 seed refl plain_seed))

    abbrev after_storm : List Text → Walk → Kinds → Kinds
    after_storm rest w faults =
        level app.top (stopped_at (codes "storm") rest) true (level storm_shape w false [] faults) []

    two_words : fault_of line (codes "storm" ∷ n ∷ seed ∷ []) ≡ []
    unfolding clap_on_literals
    two_words = storm_fault (n ∷ seed ∷ [])
        ∙ ap₂ (after_storm (n ∷ seed ∷ [])) (walk_seed []) (fault_seed [])

    two_read : met (subcommand_of line (codes "storm" ∷ n ∷ seed ∷ [])) ≡ storm_command n seed
    unfolding clap_on_literals
    two_read = ap (λ (w : Walk). met (entered app w.stopped)) (storm_stops (n ∷ seed ∷ []))
        ∙ ap (λ (w : Walk). met (Some (codes "storm", finished storm_shape.rules w.held))) (walk_seed [])

    three_words : (next : Text) (more : List Text) → is_flag next ≡ false
        → fault_of line (codes "storm" ∷ n ∷ seed ∷ next ∷ more) ≡ kind.UnknownArgument ∷ []
    unfolding clap_on_literals
    three_words next more plain = storm_fault (n ∷ seed ∷ next ∷ more)
        ∙ ap (after_storm (n ∷ seed ∷ next ∷ more) (walk storm_shape.rules [] nothing_held (n ∷ seed ∷ next ∷ more)))
        (fault_seed (next ∷ more)
        ∙ ap (λ turn. or_else turn (walk_fault storm_shape [] (walked storm_shape.rules [] after_seed next) more))
        (stray_turn storm_shape [] after_seed.held 3 next refl plain))

storm_fits : (rest : List Text) → list_any is_flag rest ≡ false → Fits (codes "storm" ∷ rest)
unfolding clap_on_literals
storm_fits [] plain = refused (codes "storm" ∷ []) kind.MissingRequiredArgument [] refl refl
storm_fits (n ∷ []) plain =
    let p = neither (is_flag n) false plain in
    refused (codes "storm" ∷ n ∷ []) kind.MissingRequiredArgument [] (one_word n p.0) refl
storm_fits (n ∷ seed ∷ []) plain =
    let p = neither (is_flag n) _ plain in
    let q = neither (is_flag seed) false p.1 in
    taken (codes "storm" ∷ n ∷ seed ∷ []) (two_words n p.0 seed q.0) (two_read n p.0 seed q.0)
storm_fits (n ∷ seed ∷ next ∷ more) plain =
    let p = neither (is_flag n) _ plain in
    let q = neither (is_flag seed) _ p.1 in
    let r = neither (is_flag next) _ q.1 in
    refused (codes "storm" ∷ n ∷ seed ∷ next ∷ more) kind.UnknownArgument []
    (three_words n p.0 seed q.0 next more r.0) refl

-- ---- replay

abbrev replay_shape : Shape
replay_shape = unwrap_or (find (λ s. answers_to (codes "replay") (label_of s)) app.subs) storm_line.top

replay_stops : (rest : List Text)
    → walk app.top.rules names nothing_held (codes "replay" ∷ rest) ≡ stopped_at (codes "replay") rest
unfolding clap_on_literals
replay_stops rest = sym (walk_stopped app.top.rules names begin (codes "replay") [] rest)

replay_unfaulted : (rest : List Text)
    → walk_fault app.top names begin (codes "replay" ∷ rest) ≡ []
unfolding clap_on_literals
replay_unfaulted rest = stopped_fault app.top names begin (codes "replay", []) rest

replay_more : (next : Text) (more : List Text) → is_flag next ≡ false
    → fault_of line (codes "replay" ∷ next ∷ more) ≡ kind.UnknownArgument ∷ []
unfolding clap_on_literals
replay_more next more plain = ap₂ from_walk (replay_stops (next ∷ more)) (replay_unfaulted (next ∷ more))
    ∙ ap (λ turn. level app.top (stopped_at (codes "replay") (next ∷ more)) true
    (level replay_shape (walk replay_shape.rules [] nothing_held (next ∷ more)) false []
    (or_else turn (walk_fault replay_shape [] (walked replay_shape.rules [] begin next) more))) [])
    (stray_turn replay_shape [] nothing_held 1 next refl plain)

replay_command : (next : Text) (more : List Text) → command (codes "replay" ∷ next ∷ more) ≡ None
replay_command next [] = refl
replay_command next (third ∷ []) = refl
replay_command next (third ∷ fourth ∷ more) = refl

replay_fits : (rest : List Text) → list_any is_flag rest ≡ false → Fits (codes "replay" ∷ rest)
unfolding clap_on_literals
replay_fits [] plain = taken (codes "replay" ∷ []) refl refl
replay_fits (next ∷ more) plain =
    let p = neither (is_flag next) _ plain in
    refused (codes "replay" ∷ next ∷ more) kind.UnknownArgument [] (replay_more next more p.0)
    (replay_command next more)

-- ---- run

abbrev run_shape : Shape
run_shape = unwrap_or (find (λ s. answers_to (codes "run") (label_of s)) app.subs) storm_line.top

run_stops : (rest : List Text)
    → walk app.top.rules names nothing_held (codes "run" ∷ rest) ≡ stopped_at (codes "run") rest
unfolding clap_on_literals
run_stops rest = sym (walk_stopped app.top.rules names begin (codes "run") [] rest)

run_unfaulted : (rest : List Text)
    → walk_fault app.top names begin (codes "run" ∷ rest) ≡ []
unfolding clap_on_literals
run_unfaulted rest = stopped_fault app.top names begin (codes "run", []) rest

run_more : (next : Text) (more : List Text) → is_flag next ≡ false
    → fault_of line (codes "run" ∷ next ∷ more) ≡ kind.UnknownArgument ∷ []
unfolding clap_on_literals
run_more next more plain = ap₂ from_walk (run_stops (next ∷ more)) (run_unfaulted (next ∷ more))
    ∙ ap (λ turn. level app.top (stopped_at (codes "run") (next ∷ more)) true
    (level run_shape (walk run_shape.rules [] nothing_held (next ∷ more)) false []
    (or_else turn (walk_fault run_shape [] (walked run_shape.rules [] begin next) more))) [])
    (stray_turn run_shape [] nothing_held 1 next refl plain)

run_command : (next : Text) (more : List Text) → command (codes "run" ∷ next ∷ more) ≡ None
run_command next [] = refl
run_command next (third ∷ []) = refl
run_command next (third ∷ fourth ∷ more) = refl

run_fits : (rest : List Text) → list_any is_flag rest ≡ false → Fits (codes "run" ∷ rest)
unfolding clap_on_literals
run_fits [] plain = taken (codes "run" ∷ []) refl refl
run_fits (next ∷ more) plain =
    let p = neither (is_flag next) _ plain in
    refused (codes "run" ∷ next ∷ more) kind.UnknownArgument [] (run_more next more p.0)
    (run_command next more)

-- ---- check

abbrev check_shape : Shape
check_shape = unwrap_or (find (λ s. answers_to (codes "check") (label_of s)) app.subs) storm_line.top

check_stops : (rest : List Text)
    → walk app.top.rules names nothing_held (codes "check" ∷ rest) ≡ stopped_at (codes "check") rest
unfolding clap_on_literals
check_stops rest = sym (walk_stopped app.top.rules names begin (codes "check") [] rest)

check_unfaulted : (rest : List Text)
    → walk_fault app.top names begin (codes "check" ∷ rest) ≡ []
unfolding clap_on_literals
check_unfaulted rest = stopped_fault app.top names begin (codes "check", []) rest

check_more : (next : Text) (more : List Text) → is_flag next ≡ false
    → fault_of line (codes "check" ∷ next ∷ more) ≡ kind.UnknownArgument ∷ []
unfolding clap_on_literals
check_more next more plain = ap₂ from_walk (check_stops (next ∷ more)) (check_unfaulted (next ∷ more))
    ∙ ap (λ turn. level app.top (stopped_at (codes "check") (next ∷ more)) true
    (level check_shape (walk check_shape.rules [] nothing_held (next ∷ more)) false []
    (or_else turn (walk_fault check_shape [] (walked check_shape.rules [] begin next) more))) [])
    (stray_turn check_shape [] nothing_held 1 next refl plain)

check_command : (next : Text) (more : List Text) → command (codes "check" ∷ next ∷ more) ≡ None
check_command next [] = refl
check_command next (third ∷ []) = refl
check_command next (third ∷ fourth ∷ more) = refl

check_fits : (rest : List Text) → list_any is_flag rest ≡ false → Fits (codes "check" ∷ rest)
unfolding clap_on_literals
check_fits [] plain = taken (codes "check" ∷ []) refl refl
check_fits (next ∷ more) plain =
    let p = neither (is_flag next) _ plain in
    refused (codes "check" ∷ next ∷ more) kind.UnknownArgument [] (check_more next more p.0)
    (check_command next more)

-- ---- every other word

same_either_way : (xs ys : Text) → bytes_eq xs ys ≡ bytes_eq ys xs
same_either_way xs ys = same_from_decides (bytes_eq xs ys) (bytes_eq ys xs) (bytes_eq-Decides xs ys)
    (Decides-like (bytes_eq ys xs) sym sym (bytes_eq-Decides ys xs))

other_command : (word : Text) (rest : List Text) → bytes_eq (codes "replay") word ≡ false
    → bytes_eq (codes "run") word ≡ false → bytes_eq (codes "check") word ≡ false → bytes_eq (codes "storm") word
    ≡ false
    → command (word ∷ rest) ≡ None
other_command word [] no_replay no_run no_check no_storm =
    rw (
      same_either_way word (codes "replay"),
      no_replay,
      same_either_way word (codes "run"),
      no_run,
      same_either_way word (codes "check"),
      no_check,
    ) refl
other_command word (n ∷ []) no_replay no_run no_check no_storm = refl
other_command word (n ∷ seed ∷ []) no_replay no_run no_check no_storm =
    rw (same_either_way word (codes "storm"), no_storm) refl
other_command word (n ∷ seed ∷ next ∷ more) no_replay no_run no_check no_storm = refl

other_fits : (word : Text) (rest : List Text) → bytes_eq (codes "replay") word ≡ false
    → bytes_eq (codes "run") word ≡ false → bytes_eq (codes "check") word ≡ false → bytes_eq (codes "storm") word
    ≡ false
    → is_flag word ≡ false → Fits (word ∷ rest)
unfolding clap_on_literals
other_fits word rest no_replay no_run no_check no_storm plain =
    let unnamed : find (answers_to word) names ≡ None = rw (no_replay, no_run, no_check, no_storm) refl in
    refused (word ∷ rest) kind.UnknownArgument (kind.InvalidSubcommand ∷ [])
    (ap (λ turn. from_walk (walk app.top.rules names nothing_held (word ∷ rest))
    (or_else turn (walk_fault app.top names (walked app.top.rules names begin word) rest)))
    (stray_turn app.top names nothing_held 1 word unnamed plain))
    (other_command word rest no_replay no_run no_check no_storm)

pub fits : (words : List Text) → list_any is_flag words ≡ false → Fits words
unfolding clap_on_literals
fits [] plain = refused [] kind.MissingSubcommand [] refl refl
fits (word ∷ rest) plain =
    let p = neither (is_flag word) (list_any is_flag rest) plain in
    by_replay p (bytes_eq (codes "replay") word) refl
  where
    by_storm : (is_flag word ≡ false) × (list_any is_flag rest ≡ false)
        → bytes_eq (codes "replay") word ≡ false → bytes_eq (codes "run") word ≡ false
        → bytes_eq (codes "check") word ≡ false → (b : Bool) → bytes_eq (codes "storm") word ≡ b → Fits (word ∷ rest)
    by_storm p no_replay no_run no_check true is =
        subst (λ t. Fits (t ∷ rest)) ((bytes_eq-Decides (codes "storm") word).0 is)
        (storm_fits rest p.1)
    by_storm p no_replay no_run no_check false is = other_fits word rest no_replay no_run no_check is p.0

    by_check : (is_flag word ≡ false) × (list_any is_flag rest ≡ false)
        → bytes_eq (codes "replay") word ≡ false → bytes_eq (codes "run") word ≡ false
        → (b : Bool) → bytes_eq (codes "check") word ≡ b → Fits (word ∷ rest)
    by_check p no_replay no_run true is = subst (λ t. Fits (t ∷ rest)) ((bytes_eq-Decides (codes "check") word).0 is)
        (check_fits rest p.1)
    by_check p no_replay no_run false is = by_storm p no_replay no_run is (bytes_eq (codes "storm") word) refl

    by_run : (is_flag word ≡ false) × (list_any is_flag rest ≡ false)
        → bytes_eq (codes "replay") word ≡ false
        → (b : Bool) → bytes_eq (codes "run") word ≡ b → Fits (word ∷ rest)
    by_run p no_replay true is = subst (λ t. Fits (t ∷ rest)) ((bytes_eq-Decides (codes "run") word).0 is)
        (run_fits rest p.1)
    by_run p no_replay false is = by_check p no_replay is (bytes_eq (codes "check") word) refl

    by_replay : (is_flag word ≡ false) × (list_any is_flag rest ≡ false)
        → (b : Bool) → bytes_eq (codes "replay") word ≡ b → Fits (word ∷ rest)
    by_replay p true is = subst (λ t. Fits (t ∷ rest)) ((bytes_eq-Decides (codes "replay") word).0 is)
        (replay_fits rest p.1)
    by_replay p false is = by_run p is (bytes_eq (codes "run") word) refl

-- ---- what a parse returns

-- a parse that succeeds has met the command
pub read_is : (a : App) (words : List Text) (m : ArgMatches) → a ≡ line → list_any is_flag words ≡ false
    → (is_simple_and_free a ≡ true → fault_of a words ≡ []) → HasMatchesOf a words m
    → met (subcommand_rows_of m) ≡ command words
read_is a words m is plain well found =
    let simple : is_simple a ≡ true = ap is_simple is in
    let free : is_simple_and_free a ≡ true = ap is_simple_and_free is in
    ap met ((found simple).1 ∙ ap (λ x. subcommand_of x words) is)
    ∙ (fits words plain).0 (sym (ap (λ x. fault_of x words) is) ∙ well free)

-- if a parse fails for another reason than memory, the words ask for nothing
pub unread_is : (a : App) (words : List Text) (e : Error) → a ≡ line → list_any is_flag words ≡ false
    → (is_simple_and_free a ≡ true → HasKind (fault_of a words) e)
    → (kind_of e ≡ kind.OutOfMemory → ⊥) → command words ≡ None
unread_is a words e is plain failed memory =
    let free : is_simple_and_free a ≡ true = ap is_simple_and_free is in
    (fits words plain).1 (λ none. go (fault_of a words) (ap (λ x. fault_of x words) is ∙ none) (failed free))
  where
    go : (ks : Kinds) → ks ≡ [] → HasKind ks e → ⊥
    go [] none (inl oom) = memory oom
    go [] none (inr among) = among
    go (k ∷ ks) none has = absurd (cc)
