-- Lemmas about the parsing of the items of `--zones`.
use Rattle.std.proofs.Common.{◌≡◌, ◌≢◌, ℕ, ◌<◌, ◌≤◌, List, [], ◌∷◌, length, Option, None, Some, ◌==◌, refl, ap, ap₂, sym, ◌∙◌, ◌+◌, lit<, Bor, ◌++◌, map, append-nil, append_assoc, arith, option_map}
use Rattle.std.specs.Prelude.{not}
use Rattle.std.specs.List.{slice_split}
use Rattle.std.proofs.lemmas.List.Splits.{slice_split_first, slice_split_none}
use Rattle.std.proofs.lemmas.List.Sums.{prefix_len_passes}
use Rattle.std.proofs.lemmas.Str.Pattern.{IsSplitOnceResult, split_once_first}
use Rattle.std.proofs.lemmas.Bool.{not-true, le-leb}
use Rattle.std.proofs.lemmas.Bool.Decides.{nat_tests}
use Rattle.cal_bytes.proofs.General.{list_any-position, list_any-no_position}
use Rattle.cal_bytes.specs.rules.Separators.{is_comma}
use Rattle.cal_command.specs.rules.OptionValues.{parts_at, zone_item_in, zone_items_in, zones_in}
use Rattle.cal_command.specs.rules.Ask.{ZoneItem, shown_item}
use Rattle.cal_command.specs.declared.ask.ZoneItem as declared_item
use Rattle.std.proofs.lemmas.List.{map-append}

-- if `c` is ASCII, then `split_once` at `c` returns the same parts of the text as `parts_at`
pub parts_at-split : (c : ℕ) (text : List ℕ) (r : Option (Bor (List ℕ) × Bor (List ℕ))) → IsSplitOnceResult c text r → c < 128
    → option_map (λ parts. (parts.0.now, parts.1.now)) r ≡ parts_at (λ byte. byte == c) text
parts_at-split c text None h small =
    let cut = split_once_first c text None h small in
    rw (list_any-no_position (λ byte. byte == c) text (omega (arith, cut))) refl
parts_at-split c text (Some x) h small =
    let cut = split_once_first c text (Some x) h small in
    rw (list_any-position (λ byte. byte == c) text cut.0, cut.1, cut.2) refl

-- if a text has a comma, then its first item is the part before the first comma, and its other items are the items of
-- the part after this comma
pub item_some : (text : List ℕ) (x : Bor (List ℕ) × Bor (List ℕ)) → IsSplitOnceResult 44 text (Some x)
    → slice_split is_comma text ≡ x.0.now ∷ slice_split is_comma x.1.now
item_some text x h =
    let cut = split_once_first 44 text (Some x) h (lit< tt) in
    slice_split_first is_comma text 0 cut.0 ∙ ap₂ (λ a b. a ∷ slice_split is_comma b) (sym cut.1) (sym cut.2)

pub item_none : (text : List ℕ) → IsSplitOnceResult 44 text None → slice_split is_comma text ≡ text ∷ []
item_none text h =
    let cut = split_once_first 44 text None h (lit< tt) in
    slice_split_none is_comma text (λ k d within. not-true _ (prefix_len_passes (λ x. not (is_comma x)) text k d (omega (arith, cut))))

-- `done` are the items parsed so far, of which there are `n`, at most 64, and `left` are the items still to be parsed;
-- together they are the items of `text`
abbrev pub ZonesRead : List ZoneItem → ℕ → List (List ℕ) → List ℕ → Type 0
ZonesRead done n left text =
    (option_map (λ later. done ++ later) (zone_items_in left) ≡ zone_items_in (slice_split is_comma text))
    × (n + length left ≡ length (slice_split is_comma text)) × (n ≤ 64)

items-bad : (item : List ℕ) (items : List (List ℕ)) → None ≡ zone_item_in item → zone_items_in (item ∷ items) ≡ None
unfolding zone_items_in
items-bad item items bad = rw (← bad) refl

items-good : (item : List ℕ) (items : List (List ℕ)) (zone : ZoneItem) → Some zone ≡ zone_item_in item
    → zone_items_in (item ∷ items) ≡ option_map (λ zones. zone ∷ zones) (zone_items_in items)
unfolding zone_items_in
items-good item items zone good = rw (← good) refl

pub zones-bad : (text item : List ℕ) (left items : List (List ℕ)) (done : List ZoneItem) (n : ℕ) → ZonesRead done n left text → left ≡ item ∷ items
    → None ≡ zone_item_in item → None ≡ zones_in text
unfolding zones_in
zones-bad text item left items done n read is bad = grind (arith, read.0, ap zone_items_in is, items-bad item items bad)

pub zones-full : (text item : List ℕ) (left items : List (List ℕ)) (done : List ZoneItem) (n : ℕ) → ZonesRead done n left text → left ≡ item ∷ items
    → n ≡ 64 → None ≡ zones_in text
unfolding zones_in
zones-full text item left items done n read is full = grind (arith, nat_tests, ap length is, read.1)

pub zones-end : (text : List ℕ) (left : List (List ℕ)) (done : List ZoneItem) (n : ℕ) → ZonesRead done n left text → left ≡ [] → Some done ≡ zones_in text
unfolding zones_in zone_items_in
zones-end text left done n read is =
    let none = ap length is in
    rw (le-leb (length (slice_split is_comma text)) 64 (omega (arith, none, read.1, read.2)), ← read.0, is) (ap Some (sym (append-nil done)))

onto : (done : List ZoneItem) (zone : ZoneItem) (found : Option (List ZoneItem))
    → option_map (λ later. (done ++ zone ∷ []) ++ later) found ≡ option_map (λ later. done ++ later) (option_map (λ zones. zone ∷ zones) found)
onto done zone None = refl
onto done zone (Some later) = ap Some (append_assoc done (zone ∷ []) later)

pub zones-more : (text item : List ℕ) (left items : List (List ℕ)) (before after : List declared_item.ZoneItem) (zone : declared_item.ZoneItem) (n : ℕ)
    → ZonesRead (map shown_item before) n left text → left ≡ item ∷ items → Some (shown_item zone) ≡ zone_item_in item → after ≡ before ++ zone ∷ [] → n ≢ 64
    → ZonesRead (map shown_item after) (n + 1) items text
zones-more text item left items before after zone n read is good pushed below =
    let more = ap length is in (
      ap (λ done. option_map (λ later. done ++ later) (zone_items_in items)) (ap (map shown_item) pushed ∙ map-append shown_item before (zone ∷ []))
          ∙ onto (map shown_item before) (shown_item zone) (zone_items_in items)
          ∙ ap (option_map (λ later. map shown_item before ++ later)) (sym (ap zone_items_in is ∙ items-good item items (shown_item zone) good)) ∙ read.0,
      omega (arith, more, read.1),
      omega (arith, read.2, below),
    )

pub zones-pushed : (text item : List ℕ) (left items : List (List ℕ)) (before after : List declared_item.ZoneItem) (zone : declared_item.ZoneItem) (n count : ℕ)
    → ZonesRead (map shown_item before) n left text → left ≡ item ∷ items → Some (shown_item zone) ≡ zone_item_in item → after ≡ before ++ zone ∷ [] → n ≢ 64
    → count ≡ n + 1 → ZonesRead (map shown_item after) count items text
zones-pushed text item left items before after zone n count read is good pushed below counted =
    rw counted (zones-more text item left items before after zone n read is good pushed below)
