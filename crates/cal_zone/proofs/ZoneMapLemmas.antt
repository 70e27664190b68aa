-- The `BTreeMap` of a zone table and the finite map that contracts see hold the same zones: looking up a name has the
-- same result in both, and inserting a zone into the `BTreeMap` also inserts it into the finite map.
use Rattle.std.proofs.Common.{◌≡◌, ℕ, List, [], ◌∷◌, map, refl, ap, sym, ◌∙◌, cond, true, false}
use Rattle.std.specs.BTreeMap.{BTreeMap, get_by_text, is_at, UpdatesBy}
use Rattle.std.specs.Cmp.{eq_by_cmp_equiv}
use Rattle.std.specs.Cmp.Lexicographic.{slice_cmp, nat_list_cmp_total}
use Rattle.std.specs.FinMap.{find, get, get-from_entries, insert, get-insert, same_map, slice_cmp-IsAntisymmetric, nat_cmp-IsAntisymmetric}
use Rattle.std.specs.Map.{lookup}
use Rattle.std.specs.Ordering.{nat_cmp, eq_by_cmp, is_eq}
use Rattle.std.specs.Prelude.{String, Some}
use Rattle.std.specs.Str.{bytes_eq}
use Rattle.std.specs.String.{string_bytes, string_cmp}
use Rattle.std.specs.declared.alloc.Global.{Global}
use Rattle.std.proofs.lemmas.Bool.{false_from_ne_true}
use Rattle.std.proofs.lemmas.Slice.Eq.{bytes_eq-Decides}
use Rattle.std.proofs.lemmas.Map.Text.{btree_map_updates_text, is_eq-slice_cmp}
use Rattle.jiff.specs.Types.{TimeZone, UTC}
use Rattle.cal_zone.specs.rules.AddedZones.{zone_map_in}
use Rattle.cal_zone.specs.rules.ZoneTable.{ZoneMap, zone_named}
use Rattle.cal_civil.specs.rules.ZoneName.{is_utc_name}

find-lookup : (q : List ℕ) (es : List (String Global × TimeZone))
    → find (slice_cmp nat_cmp) q (map (λ entry. (string_bytes entry.0, entry.1)) es) ≡ lookup (is_at (λ key. slice_cmp nat_cmp q (string_bytes key))) es
find-lookup q [] = refl
find-lookup q (e ∷ es) = ap (cond (is_eq (slice_cmp nat_cmp q (string_bytes e.0))) (Some e.1)) (find-lookup q es)

-- looking up a name in the finite map returns the same as looking it up in the `BTreeMap`
pub get-zone_map_in : (zones : BTreeMap (String Global) TimeZone) (q : List ℕ) → get (zone_map_in zones) q ≡ get_by_text zones q
get-zone_map_in zones q = get-from_entries nat_list_cmp_total _ q ∙ find-lookup q zones.entries

-- a name other than `UTC` (ignoring case) is looked up in the `BTreeMap`
pub zone_named-zone_map_in : (zones : BTreeMap (String Global) TimeZone) (table : ZoneMap) (name : List ℕ) → zone_map_in zones ≡ table → is_utc_name name ≡ false
    → zone_named table name ≡ get_by_text zones name
unfolding zone_named
zone_named-zone_map_in zones table name view other =
    ap (λ b. cond b (Some UTC) (get table name)) other ∙ ap (λ t. get t name) (sym view) ∙ get-zone_map_in zones name

-- two names have the same bytes if and only if neither comes before the other in the order of the map
same_test : (name q : List ℕ) → bytes_eq name q ≡ eq_by_cmp (slice_cmp nat_cmp) q name
same_test name q = sym (is_eq-slice_cmp name q) ∙ (eq_by_cmp_equiv nat_list_cmp_total).symm name q

-- if a zone is inserted into the `BTreeMap` under a name, it is also inserted into the finite map under this name
pub zone_map_in-insert : (old new : BTreeMap (String Global) TimeZone) (name : List ℕ) (zone : TimeZone)
    → UpdatesBy string_cmp (λ key. slice_cmp nat_cmp name (string_bytes key)) old new (Some zone)
    → zone_map_in new ≡ insert (zone_map_in old) name zone
zone_map_in-insert old new name zone updates =
    same_map nat_list_cmp_total (slice_cmp-IsAntisymmetric nat_cmp-IsAntisymmetric) _ _
    (λ q. get-zone_map_in new q ∙ btree_map_updates_text name old new (Some zone) updates q
    ∙ ap (λ b. cond b (Some zone) (get_by_text old q)) (same_test name q)
    ∙ ap (λ o. cond (eq_by_cmp (slice_cmp nat_cmp) q name) (Some zone) o) (sym (get-zone_map_in old q))
    ∙ sym (get-insert nat_list_cmp_total (zone_map_in old) name zone q))

differ : (xs ys : List ℕ) → (xs ≡ ys → ⊥) → eq_by_cmp (slice_cmp nat_cmp) xs ys ≡ false
differ xs ys h = is_eq-slice_cmp xs ys ∙ false_from_ne_true _ (λ e. h ((bytes_eq-Decides xs ys).0 e))

same : (xs : List ℕ) → eq_by_cmp (slice_cmp nat_cmp) xs xs ≡ true
same xs = is_eq-slice_cmp xs xs ∙ (bytes_eq-Decides xs xs).1 refl

pub zone_named-here : (table : ZoneMap) (name : List ℕ) (zone : TimeZone) → is_utc_name name ≡ false → zone_named (insert table name zone) name ≡ Some zone
unfolding zone_named
zone_named-here table name zone other =
    ap (λ b. cond b (Some UTC) (get (insert table name zone) name)) other
    ∙ get-insert nat_list_cmp_total table name zone name ∙ ap (λ b. cond b (Some zone) (get table name)) (same name)

pub zone_named-elsewhere : (table : ZoneMap) (name other : List ℕ) (zone : TimeZone) → (other ≡ name → ⊥) → zone_named (insert table name zone) other ≡ zone_named table other
unfolding zone_named
zone_named-elsewhere table name other zone apart =
    ap (λ o. cond (is_utc_name other) (Some UTC) o)
    (get-insert nat_list_cmp_total table name zone other ∙ ap (λ b. cond b (Some zone) (get table other)) (differ other name apart))

pub ruleset one_name = (zone_named-here, zone_named-elsewhere)
