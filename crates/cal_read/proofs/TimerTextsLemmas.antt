-- Lemmas on reading one text after another.
use Rattle.std.proofs.Common.{false, ◌≡◌, ◌+◌, ◌<◌, ℕ, List, [], ◌∷◌, ◌++◌, ◌∙◌, ap, sym, drop, get_or, length, take, append-nil, Result, Ok, Err}
use Rattle.std.proofs.Math.Seq.{take-length}
use Rattle.std.proofs.lemmas.List.{take_more, take-append-drop}
use Rattle.std.proofs.lemmas.List.Concat.{flat_map-append}
use Rattle.cal_spec.specs.declared.spec_fault.SpecFault.{SpecFault}
use Rattle.cal_timer.specs.rules.Lines.{logical_lines}
use Rattle.cal_timer.specs.rules.Assignments.{assignments_in}
use Rattle.cal_timer.specs.rules.TimerText.{without_mark}
use Rattle.cal_timer.specs.rules.TimerEntries.{Timer, lists_of, timer_of}
use Rattle.cal_read.specs.rules.TimerTexts.{assignments_at, assignments_of}
use Rattle.cal_timer.specs.computed.ResumedLists.{empty_lists, resumed}
use Rattle.cal_timer.specs.declared.fault.TimerFault.{TimerFault}
use Rattle.cal_read.specs.declared.texts.NumberedText.{NumberedText}
use Rattle.cal_timer.proofs.ListedLemmas.{resumed_append, with_lists}

-- the assignments of one more text follow those of the texts before it
assignments_more : (files : List NumberedText) (i : ℕ) (d : NumberedText) → i < length files → assignments_of (take (i + 1) files) ≡ assignments_of (take i files) ++ assignments_at (get_or files i d)
assignments_more files i d h =
    ap assignments_of (take_more files i d h)
    ∙ flat_map-append assignments_at (take i files) (get_or files i d ∷ [])
    ∙ ap (λ last. assignments_of (take i files) ++ last) (append-nil (assignments_at (get_or files i d)))

pub resumed_more : {E : Type 0} (read : List ℕ → Result E SpecFault) (files : List NumberedText) (i : ℕ) (d : NumberedText) (text : List ℕ) (lists : Timer E) (r : Result (Timer E) TimerFault) → i < length files → text ≡ without_mark (get_or files i d).text.now
    → resumed read empty_lists (assignments_of (take i files)) ≡ Ok lists → resumed read lists (assignments_in false (logical_lines (get_or files i d).first text)) ≡ r
    → resumed read empty_lists (assignments_of (take (i + 1) files)) ≡ r
resumed_more read files i d text lists r h mark before here =
    ap (resumed read empty_lists) (assignments_more files i d h)
    ∙ resumed_append read empty_lists (assignments_of (take i files)) (assignments_at (get_or files i d))
    ∙ ap (λ now. with_lists now (λ lists. resumed read lists (assignments_at (get_or files i d)))) before
    ∙ ap (λ text. resumed read lists (assignments_in false (logical_lines (get_or files i d).first text))) (sym mark)
    ∙ here

-- after the last text, the lists so far are the lists of all texts
pub resumed_all : {E : Type 0} (read : List ℕ → Result E SpecFault) (files : List NumberedText) (i : ℕ) (lists : Timer E) → i ≡ length files
    → resumed read empty_lists (assignments_of (take i files)) ≡ Ok lists → resumed read empty_lists (assignments_of files) ≡ Ok lists
resumed_all read files i lists e h = ap (λ all. resumed read empty_lists (assignments_of all)) (sym (ap (λ n. take n files) e ∙ take-length files)) ∙ h

-- if the first `i` texts have an error, all texts together have the same error
pub resumed_stops : {E : Type 0} (read : List ℕ → Result E SpecFault) (files : List NumberedText) (i : ℕ) (fault : TimerFault)
    → resumed read empty_lists (assignments_of (take i files)) ≡ Err fault → resumed read empty_lists (assignments_of files) ≡ Err fault
resumed_stops read files i fault h =
    ap (λ all. resumed read empty_lists (assignments_of all)) (sym (take-append-drop i files))
    ∙ ap (resumed read empty_lists) (flat_map-append assignments_at (take i files) (drop i files))
    ∙ resumed_append read empty_lists (assignments_of (take i files)) (assignments_of (drop i files))
    ∙ ap (λ now. with_lists now (λ lists. resumed read lists (assignments_of (drop i files)))) h

-- reading a single text whose first line has the number 1 has the same result as reading a timer file with this text
pub one_text : {E : Type 0} (read : List ℕ → Result E SpecFault) (file : NumberedText) → file.first ≡ 1 → lists_of read (assignments_of (file ∷ [])) ≡ timer_of read file.text.now
unfolding timer_of
one_text read file first = rw (append-nil (assignments_at file), first) (ap (λ _. timer_of read file.text.now) first)
