-- Lemmas about the walk of `clap` over the arguments of a subcommand: if it has no fault, then each row has values.
use Rattle.std.proofs.Common.{◌≡◌, ◌&&◌, ℕ, zero, suc, Bool, true, false, cond, List, [], ◌∷◌, Option, None, Some, length, refl}
use Rattle.std.specs.Prelude.{drop, encode_utf8, fold, is_some, slice_get}
use Rattle.std.specs.List.{list_all}
use Rattle.std.specs.Option.{option_map_or}
use Rattle.std.specs.Str.{bytes_eq, chars}
use Rattle.clap.specs.Faults.{bundle_fault, bundle_step_fault, flag_word_fault, flags_fault, long_fault, option_fault, other_fault, positional_fault, react_fault, settle_fault, short_fault, step_fault, stray_fault, turn_fault, use_fault, walk_fault, word_fault}
use Rattle.clap.specs.Kinds.{Kinds, or_else}
use Rattle.clap.specs.Lexer.{long_of, short_of}
use Rattle.clap.specs.Simple.{Shape}
use Rattle.clap.specs.Walk.{Held, Names, Outcome, Step, Waiting, Walk, after_flag, after_step, arg_by_id, arg_by_index, arg_by_long, arg_by_short, attached_value, bundle, bundle_met, bundle_step, done, flag_met, idle, is_pending, long_met, long_or_other, next, option, option_met, option_word, plain, plain_word, positional, positional_held, reacted, refused, settled, settled_rows, short_met, short_or_plain, subcommand, subcommand_met, subcommand_or_other, takes_several, takes_values, to_positional, trailing, used_by_id, value, waits, walked, walked_from, word_met}
use Rattle.clap.specs.Words.{Row, Rule, Text}
use Rattle.clap.specs.declared.error.kind.ErrorKind.TheVariants as kind
use Rattle.cal_options.proofs.UseLemmas.{found_passes, has_values, is_fit, none_first, none_then, used-fits}

module _ (is_single : Bool) (shape : Shape) (off : shape.args_override_self ≡ false) (fit : list_all (is_fit is_single) shape.rules ≡ true) where
  abbrev Fits : List Row → Type 0
  Fits rows = list_all (has_values is_single) rows ≡ true

  abbrev FoundFits : Option Rule → Type 0
  FoundFits found = option_map_or (is_fit is_single) found true ≡ true

  -- ## Uses of options

  used_by_id-fits : (found : Option Rule) (values : List Text) (rows : List Row) → FoundFits found
      → option_map_or (λ rule. use_fault shape.args_override_self rule values rows) found [] ≡ [] → Fits rows → Fits (used_by_id found values rows)
  used_by_id-fits None values rows fits none all = all
  used_by_id-fits (Some rule) values rows fits none all = used-fits is_single shape.args_override_self rule values rows off fits none all

  settled_rows-fits : (pending : Option (Text × List Text)) (rows : List Row)
      → option_map_or (λ p. option_map_or (λ rule. use_fault shape.args_override_self rule p.1 rows) (arg_by_id shape.rules p.0) []) pending [] ≡ []
      → Fits rows → Fits (settled_rows shape.rules pending rows)
  settled_rows-fits None rows none all = all
  settled_rows-fits (Some p) rows none all =
      used_by_id-fits (arg_by_id shape.rules p.0) p.1 rows (found_passes (λ rule. bytes_eq rule.id p.0) (is_fit is_single) shape.rules fit) none all

  pub settled-fits : (held : Held) → settle_fault shape.rules shape.args_override_self held ≡ [] → Fits held.rows → Fits (settled shape.rules held).rows
  settled-fits held none all = settled_rows-fits held.pending held.rows none all

  reacted-fits : (rule : Rule) (values : List Text) (held : Held) → is_fit is_single rule ≡ true → react_fault shape.rules shape.args_override_self rule values held ≡ []
      → Fits held.rows → Fits (reacted shape.rules rule values held).rows
  reacted-fits rule values held fits none all =
      used-fits is_single shape.args_override_self rule values (settled shape.rules held).rows off fits
      (none_then (settle_fault shape.rules shape.args_override_self held) _ none)
      (settled-fits held (none_first (settle_fault shape.rules shape.args_override_self held) _ none) all)

  option_met-fits : (rule : Rule) (text : Option Text) (held : Held) → is_fit is_single rule ≡ true → option_fault shape.rules shape.args_override_self rule text held ≡ []
      → Fits held.rows → Fits (option_met shape.rules rule text held).0.rows
  option_met-fits rule (Some text) held fits none all = reacted-fits rule (text ∷ []) held fits none all
  option_met-fits rule None held fits none all = settled-fits held none all

  flag_met-fits : (rule : Rule) (text : Option Text) (held : Held) → is_fit is_single rule ≡ true
      → (text ≡ None → react_fault shape.rules shape.args_override_self rule [] held ≡ []) → Fits held.rows → Fits (flag_met shape.rules rule text held).0.rows
  flag_met-fits rule (Some text) held fits none all = all
  flag_met-fits rule None held fits none all = reacted-fits rule [] held fits (none refl) all

  long_met-fits : (found : Option Rule) (text : Option Text) (held : Held) → FoundFits found → long_fault shape.rules shape.args_override_self found text held ≡ []
      → Fits held.rows → Fits (long_met shape.rules found text held).0.rows
  long_met-fits None text held fits none all = all
  long_met-fits (Some rule) text held fits none all = go (takes_values rule) none
    where
      go : (takes : Bool)
          → cond takes (option_fault shape.rules shape.args_override_self rule text held)
          (cond (is_some text) (kind.TooManyValues ∷ []) (react_fault shape.rules shape.args_override_self rule [] held)) ≡ []
          → Fits (cond takes (option_met shape.rules rule text held) (flag_met shape.rules rule text held)).0.rows
      go true none = option_met-fits rule text held fits none all
      go false none = flag_met-fits rule text held fits (λ absent. rw absent at none) all

  -- ## Bundles of short options

  short_met-fits : (found : Option Rule) (rest : Text) (held : Held) (after : Held → Held × Outcome) (fault : Held → Kinds) → FoundFits found
      → ((then : Held) → fault then ≡ [] → Fits then.rows → Fits (after then).0.rows)
      → short_fault shape.rules shape.args_override_self found rest held fault ≡ [] → Fits held.rows → Fits (short_met shape.rules found rest held after).0.rows
  short_met-fits None rest held after fault fits later none all = all
  short_met-fits (Some rule) rest held after fault fits later none all = go (takes_values rule) none
    where
      go : (takes : Bool)
          → cond takes (option_fault shape.rules shape.args_override_self rule (attached_value rest) held)
          (or_else (react_fault shape.rules shape.args_override_self rule [] held) (fault (reacted shape.rules rule [] held))) ≡ []
          → Fits (cond takes (option_met shape.rules rule (attached_value rest) held) (after (reacted shape.rules rule [] held))).0.rows
      go true none = option_met-fits rule (attached_value rest) held fits none all
      go false none =
          later (reacted shape.rules rule [] held) (none_then (react_fault shape.rules shape.args_override_self rule [] held) _ none)
          (reacted-fits rule [] held fits (none_first (react_fault shape.rules shape.args_override_self rule [] held) _ none) all)

  bundle_step-fits : (first : Option ℕ) (flags : Text) (skip : ℕ) (so_far : Outcome) (held : Held) (after : Text → ℕ → Outcome → Held → Held × Outcome)
      (fault : Text → ℕ → Held → Kinds)
      → ((flags : Text) (skip : ℕ) (so_far : Outcome) (then : Held) → fault flags skip then ≡ [] → Fits then.rows → Fits (after flags skip so_far then).0.rows)
      → bundle_step_fault shape.rules shape.args_override_self first flags skip held fault ≡ [] → Fits held.rows
      → Fits (bundle_step shape.rules first flags skip so_far held after).0.rows
  bundle_step-fits None flags skip so_far held after fault later none all = all
  bundle_step-fits (Some letter) flags zero so_far held after fault later none all =
      short_met-fits (arg_by_short shape.rules letter) (drop (length (encode_utf8 letter)) flags) held (after (drop (length (encode_utf8 letter)) flags) 0 done)
      (fault (drop (length (encode_utf8 letter)) flags) 0) (found_passes _ (is_fit is_single) shape.rules fit)
      (λ then. later (drop (length (encode_utf8 letter)) flags) 0 done then) none all
  bundle_step-fits (Some letter) flags (suc skip) so_far held after fault later none all =
      later (drop (length (encode_utf8 letter)) flags) skip so_far held none all

  bundle_met-fits : (count : ℕ) (flags : Text) (skip : ℕ) (so_far : Outcome) (held : Held) → flags_fault shape.rules shape.args_override_self count flags skip held ≡ []
      → Fits held.rows → Fits (bundle_met shape.rules count flags skip so_far held).0.rows
  unfolding flags_fault bundle_met
  bundle_met-fits zero flags skip so_far held none all = all
  bundle_met-fits (suc count) flags skip so_far held none all =
      bundle_step-fits (slice_get (chars flags) 0) flags skip so_far held (bundle_met shape.rules count) (flags_fault shape.rules shape.args_override_self count)
      (bundle_met-fits count) none all

  -- ## Words

  plain_word-fits : (waiting : Waiting) (word : Text) (held : Held) → Fits held.rows → Fits (plain_word shape.rules waiting word held).0.rows
  plain_word-fits idle word held all = all
  plain_word-fits (option id) word held all = go (arg_by_id shape.rules id)
    where
      go : (found : Option Rule) → Fits (option_word found id word held).0.rows
      go None = all
      go (Some rule) = all
  plain_word-fits positional word held all = all

  after_flag-fits : (waiting : Waiting) (word : Text) (held : Held) (outcome : Outcome) → Fits held.rows → Fits (after_flag shape.rules waiting word held outcome).0.rows
  after_flag-fits waiting word held done all = all
  after_flag-fits waiting word held (waits id) all = all
  after_flag-fits waiting word held plain all = plain_word-fits waiting word held all
  after_flag-fits waiting word held refused all = plain_word-fits waiting word held all

  short_or_plain-fits : (waiting : Waiting) (word : Text) (flags : Option Text) (held : Held)
      → option_map_or (λ flags. bundle_fault shape.rules shape.args_override_self flags held) flags [] ≡ [] → Fits held.rows
      → Fits (short_or_plain shape.rules waiting word flags held).0.rows
  short_or_plain-fits waiting word None held none all = plain_word-fits waiting word held all
  short_or_plain-fits waiting word (Some flags) held none all =
      after_flag-fits waiting word (bundle shape.rules flags held).0 (bundle shape.rules flags held).1
      (bundle_met-fits (length flags) flags held.skip plain (record held { skip = 0 }) none all)

  long_or_other-fits : (waiting : Waiting) (word : Text) (long : Option (Text × Option Text)) (held : Held)
      → flag_word_fault shape.rules shape.args_override_self long word held ≡ [] → Fits held.rows → Fits (long_or_other shape.rules waiting word long held).0.rows
  long_or_other-fits waiting word None held none all = short_or_plain-fits waiting word (short_of word) held none all
  long_or_other-fits waiting word (Some p) held none all =
      after_flag-fits waiting word (long_met shape.rules (arg_by_long shape.rules p.0) p.1 held).0 (long_met shape.rules (arg_by_long shape.rules p.0) p.1 held).1
      (long_met-fits (arg_by_long shape.rules p.0) p.1 held (found_passes _ (is_fit is_single) shape.rules fit) none all)

  subcommand_or_other-fits : (met : Option Text) (waiting : Waiting) (position : ℕ) (word : Text) (held : Held) → other_fault shape met word held ≡ []
      → Fits held.rows → Fits (subcommand_or_other shape.rules met waiting position word held).0.rows
  subcommand_or_other-fits (Some name) waiting position word held none all = all
  subcommand_or_other-fits None waiting position word held none all = go (bytes_eq word (45 ∷ 45 ∷ [])) none
    where
      go : (ends : Bool) → cond ends [] (flag_word_fault shape.rules shape.args_override_self (long_of word) word held) ≡ []
          → Fits (cond ends (held, trailing position) (long_or_other shape.rules waiting word (long_of word) held)).0.rows
      go true none = all
      go false none = long_or_other-fits waiting word (long_of word) held none all

  word_met-fits : (names : Names) (is_trailing : Bool) (waiting : Waiting) (position : ℕ) (word : Text) (held : Held)
      → word_fault shape names is_trailing waiting word held ≡ [] → Fits held.rows
      → Fits (word_met shape.rules names is_trailing waiting position word held).0.rows
  word_met-fits names true waiting position word held none all = all
  word_met-fits names false waiting position word held none all =
      subcommand_or_other-fits (subcommand_met names waiting word) waiting position word held none all

  -- ## Steps

  positional_held-fits : (rule : Rule) (word : Text) (held : Held) → positional_fault shape.rules shape.args_override_self rule held ≡ [] → Fits held.rows
      → Fits (positional_held shape.rules rule word held).rows
  positional_held-fits rule word held none all = go (is_pending rule held.pending && takes_several rule) none
    where
      go : (more : Bool) → cond more [] (settle_fault shape.rules shape.args_override_self held) ≡ [] → Fits (cond more held (settled shape.rules held)).rows
      go true none = all
      go false none = settled-fits held none all

  to_positional-fits : (found : Option Rule) (word : Text) (before : Walk) (held : Held)
      → option_map_or (λ rule. positional_fault shape.rules shape.args_override_self rule held) found (stray_fault shape) ≡ [] → Fits held.rows
      → Fits (to_positional shape.rules found word before held).held.rows
  to_positional-fits None word before held none all = all
  to_positional-fits (Some rule) word before held none all = positional_held-fits rule word held none all

  after_step-fits : (word : Text) (before : Walk) (held : Held) (step : Step) → step_fault shape before.position held step ≡ [] → Fits held.rows
      → Fits (after_step shape.rules word before held step).held.rows
  after_step-fits word before held (next waiting) none all = all
  after_step-fits word before held (trailing position) none all = all
  after_step-fits word before held (subcommand name) none all = all
  after_step-fits word before held value none all = to_positional-fits (arg_by_index shape.rules before.position) word before held none all

  walked_from-fits : (names : Names) (stopped : Option (Text × List Text)) (before : Walk) (word : Text)
      → cond (is_some stopped) [] (or_else (word_fault shape names before.is_trailing before.waiting word before.held)
      (step_fault shape before.position (word_met shape.rules names before.is_trailing before.waiting before.position word before.held).0
      (word_met shape.rules names before.is_trailing before.waiting before.position word before.held).1)) ≡ []
      → Fits before.held.rows → Fits (walked_from shape.rules names stopped before word).held.rows
  walked_from-fits names (Some p) before word none all = all
  walked_from-fits names None before word none all =
      let met = word_met shape.rules names before.is_trailing before.waiting before.position word before.held in
      let faults = word_fault shape names before.is_trailing before.waiting word before.held in
      after_step-fits word before met.0 met.1 (none_then faults _ none)
      (word_met-fits names before.is_trailing before.waiting before.position word before.held (none_first faults _ none) all)

  -- if a walk has no fault, then each row has values after it if each row has values before it
  pub walk-fits : (names : Names) (before : Walk) (words : List Text) → walk_fault shape names before words ≡ [] → Fits before.held.rows
      → Fits (fold (walked shape.rules names) before words).held.rows
  unfolding walk_fault walked
  walk-fits names before [] none all = all
  walk-fits names before (word ∷ words) none all =
      let turn = turn_fault shape names before word in
      walk-fits names (walked shape.rules names before word) words (none_then turn _ none)
      (walked_from-fits names before.stopped before word (none_first turn _ none) all)
