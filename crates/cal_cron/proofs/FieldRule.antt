-- The parser accepts exactly the fields that the grammar allows.
use Rattle.std.proofs.Common.{◌≡◌, ◌∙◌, ℕ, ◌-◌, ◌<◌, ◌≤◌, false, nat_eq, List, [], ◌∷◌, length, Ok, refl, sym, ap, arith}
use Rattle.std.specs.List.{AllByRecursion, AllZip, join_with_byte, slice_split}
use Rattle.std.proofs.lemmas.Bool.{eqb-false, ne_eqb}
use Rattle.std.proofs.lemmas.Bool.Decides.{nat_tests}
use Rattle.std.proofs.lemmas.List.Splits.{join_with_byte-slice_split}
use Rattle.cal_bytes.specs.rules.AndThen.{◌>>=◌}
use Rattle.cal_bytes.specs.rules.Separators.{is_comma}
use Rattle.cal_bytes.proofs.General.{Apart, IsClear, clear_of, some_piece, split_join_with_byte}
use Rattle.cal_spec.proofs.ReadLemmas.{bind_ok}
use Rattle.cal_cron.proofs.ItemRule.{is_item_byte, item_bytes, item_found, item_only}
use Rattle.cal_cron.proofs.ValueRule.{cond_ok}
use Rattle.cal_cron.specs.computed.Items.{field_in, item_due, item_in, items_in}
use Rattle.cal_cron.specs.rules.CronGrammar.{IsField, IsItem, max_items}
use Rattle.cal_cron.specs.declared.cron_field.CronField.{CronField}
use Rattle.cal_cron.specs.declared.items.CronRange.{CronRange}
use Rattle.cal_cron.specs.declared.field_fault.FieldFault.TheVariants.{TooManyItems}

pub record ItemsRead (field : CronField) (room : ℕ) (ts : List (List ℕ)) (rs : List CronRange) : Type 0 where
  pub items : AllZip (IsItem field) ts rs
  pub few : length rs ≤ room

due_found : (field : CronField) (room : ℕ) (text : List ℕ) (r : CronRange) → item_due field room text ≡ Ok r → (nat_eq room 0 ≡ false) × IsItem field text r
unfolding item_due
due_found field room text r at =
    let read = cond_ok (nat_eq room 0) TooManyItems (item_in field text) r at in
    (read.0, item_found field text r read.1)

due_only : (field : CronField) (room : ℕ) (text : List ℕ) (r : CronRange) → IsItem field text r → 0 < room → item_due field room text ≡ Ok r
unfolding item_due
due_only field room text r is some = rw (ne_eqb room 0 (λ e. omega (arith, e, some))) (item_only field text r is)

items_found : (field : CronField) (room : ℕ) (ts : List (List ℕ)) (rs : List CronRange) → items_in field room ts ≡ Ok rs → ItemsRead field room ts rs
items_found field room [] rs at = let none : [] ≡ rs = cc in rw (← none) (record { items = tt; few = omega arith })
items_found field room (t ∷ ts) rs at =
    let one = bind_ok (item_due field room t) (λ r. items_in field (room - 1) ts >>= λ qs. Ok (r ∷ qs)) rs at in
    let two = bind_ok (items_in field (room - 1) ts) (λ qs. Ok (one.value ∷ qs)) rs one.next in
    let is : one.value ∷ two.value ≡ rs = let e = two.next in cc in
    let due = due_found field room t one.value one.first in
    let rest = items_found field (room - 1) ts two.value two.first in
    let some = eqb-false room 0 due.0 in
    rw (← is) (record { items = (due.1, rest.items); few = omega (arith, some, rest.few) })

items_only : (field : CronField) (room : ℕ) (ts : List (List ℕ)) (rs : List CronRange) → AllZip (IsItem field) ts rs → length rs ≤ room → items_in field room ts ≡ Ok rs
items_only field room [] [] zip few = refl
items_only field room [] (r ∷ rs) zip few = absurd zip
items_only field room (t ∷ ts) [] zip few = absurd zip
items_only field room (t ∷ ts) (r ∷ rs) zip few =
    rw (due_only field room t r zip.0 (omega arith), items_only field (room - 1) ts rs zip.1 (omega arith)) refl

pub field_found : (field : CronField) (text : List ℕ) (rs : List CronRange) → field_in field text ≡ Ok rs → IsField field text rs
unfolding field_in
field_found field text rs at =
    let some = some_piece is_comma text in
    let read = items_found field max_items (slice_split is_comma text) rs at in
    record {
      texts = slice_split is_comma text;
      some = rw some.2 (omega arith);
      whole = sym (join_with_byte-slice_split 44 text);
      items = read.items;
      few = read.few;
    }

item_no_comma : Apart is_item_byte is_comma
item_no_comma b h = grind (arith, nat_tests)

texts_clear : (field : CronField) (ts : List (List ℕ)) (rs : List CronRange) → AllZip (IsItem field) ts rs → AllByRecursion (IsClear is_comma) ts
texts_clear field [] [] zip = tt
texts_clear field [] (r ∷ rs) zip = tt
texts_clear field (t ∷ ts) [] zip = absurd zip
texts_clear field (t ∷ ts) (r ∷ rs) zip =
    (clear_of is_item_byte is_comma t item_no_comma (item_bytes field t r zip.0), texts_clear field ts rs zip.1)

texts_split : (field : CronField) (ts : List (List ℕ)) (rs : List CronRange) → 0 < length ts → AllZip (IsItem field) ts rs → slice_split is_comma (join_with_byte 44 ts) ≡ ts
texts_split field [] rs some zip = absurd (omega arith)
texts_split field (t ∷ ts) rs some zip = split_join_with_byte 44 t ts refl (texts_clear field (t ∷ ts) rs zip)

pub field_only : (field : CronField) (text : List ℕ) (rs : List CronRange) → IsField field text rs → field_in field text ≡ Ok rs
unfolding field_in
field_only field text rs is =
    let pieces : slice_split is_comma text ≡ is.texts = ap (slice_split is_comma) is.whole ∙ texts_split field is.texts rs is.some is.items in
    rw pieces (items_only field max_items is.texts rs is.items is.few)
