-- Lemmas on the settings of a timer that systemd ignores.
use Rattle.std.proofs.Common.{◌≡◌, ◌∙◌, ℕ, List, [], ◌∷◌, ◌++◌, Option, None, Some, ap, map, refl, sym}
use Rattle.std.proofs.lemmas.List.{map-append}
use Rattle.std.proofs.lemmas.List.Elements.{filter_map-append}
use Rattle.std.specs.List.{cons_option}
use Rattle.std.specs.Option.{option_to_list}
use Rattle.cal_read.specs.declared.section_assignments.OwnedAssignment.{OwnedAssignment}
use Rattle.cal_read.specs.rules.SectionAssignments.{shown_owned_assignment}
use Rattle.cal_load.specs.declared.ignored.IgnoredSetting.{IgnoredSetting}
use Rattle.cal_load.specs.rules.IgnoredSettings.{ignored_among, ignored_setting}

one_setting : (setting : Option IgnoredSetting) → cons_option setting [] ≡ option_to_list setting
one_setting None = refl
one_setting (Some setting) = refl

-- if `old` has the ignored settings among `before`, and `new` also has that of the assignment `a` if systemd ignores
-- `a`, then `new` has the ignored settings among `before` and `a`
pub ignored_more : (name : List ℕ) (counted : Option ℕ) (before : List OwnedAssignment) (a : OwnedAssignment) (old new : List IgnoredSetting)
    → old ≡ ignored_among name counted (map shown_owned_assignment before)
    → new ≡ old ++ option_to_list (ignored_setting name counted (shown_owned_assignment a))
    → new ≡ ignored_among name counted (map shown_owned_assignment (before ++ a ∷ []))
ignored_more name counted before a old new so_far pushed =
    pushed
    ∙ ap (λ list. list ++ option_to_list (ignored_setting name counted (shown_owned_assignment a))) so_far
    ∙ ap (λ last. ignored_among name counted (map shown_owned_assignment before) ++ last) (sym (one_setting (ignored_setting name counted (shown_owned_assignment a))))
    ∙ sym (filter_map-append (ignored_setting name counted) (map shown_owned_assignment before) (shown_owned_assignment a ∷ []))
    ∙ ap (ignored_among name counted) (sym (map-append shown_owned_assignment before (a ∷ [])))
