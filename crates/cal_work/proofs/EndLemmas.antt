-- Lemmas on the end of the work: the report of a stop, the flush of standard output, and the exit status.
use Rattle.std.proofs.Common.{arith, ◌≡◌, ℕ, Bool, true, false, List, [], Option, Result, Ok, Err, refl, sym, ◌∙◌, None, Some, ap}
use Rattle.std.specs.Io.KnownBytes.{append_known}
use Rattle.std.proofs.KnownBytes.{Appends-kept}
use Rattle.std.proofs.lemmas.Bool.{false≢true}
use Rattle.cal_bytes.specs.rules.Writes.{AppendsFront, Writes}
use Rattle.cal_bytes.specs.rules.Output.{Flushes}
use Rattle.cal_work.specs.rules.Outcome.{outcome, out_text, err_text, ended_status}
use Rattle.cal_report.specs.rules.ReportLines.{Report}
use Rattle.cal_work.specs.rules.Stop.{Stop, command_outlet, command_stop, command_text, fault_stop, outlet_of, shown_stop, stop_text}
use Rattle.cal_machine.specs.rules.Told.{Told}
use Rattle.cal_work.specs.computed.WorkSteps.{StopsAs, StopEnds, EndsAs, AnsweredArguments, IsFlushed, ReportsOn, ReportsStop, status_by, WritesOf}
use Rattle.cal_work.specs.rules.Works.{Reaches, ReportsFault, Works}
use Rattle.cal_request.specs.declared.request.RunFault.{RunFault}
use Rattle.cal_request.specs.declared.request.RunFault.TheVariants.{OutFailed, ErrFailed, NoMemory}
use Rattle.cal_request.specs.declared.request.Status.{Status}
use Rattle.cal_command.specs.rules.CommandFault.{CommandFault, usage, help, bad_value, no_memory, shown_fault}
use Rattle.cal_zone.specs.declared.zone_files.LoadFault.TheVariants.{ReadFailed, Zone}
use Rattle.cal_zone.specs.declared.zone_fault.ZoneFault.TheVariants as zone
use Rattle.cal_work.specs.declared.stop.Outlet.{Outlet}
use Rattle.cal_work.specs.declared.stop.Outlet.TheVariants.{OnOut, OnErr, Later}
use Rattle.cal_work.specs.declared.stop.Stop as declared_stop
use Rattle.cal_work.specs.declared.stop.Stop.TheVariants.{Command, Zones, LocalRule, LocalName, Clock, Open, Run}
use Rattle.cal_report.proofs.AnswerLemmas.{writes_nothing}
use Rattle.cal_report.proofs.ReportLemmas.{nothing_front, whole_front}
use Rattle.std.proofs.lemmas.List.{append-nil}

append_known-nil : (b : Option (List ℕ)) → append_known b [] ≡ b
append_known-nil None = refl
append_known-nil (Some xs) = ap (λ l. Some l) (append-nil xs)

-- ## What is written for a stop

-- Suppose that a run failed with `fault`, for which the exit status is 1, and that a prefix of each text of the outcome
-- was written. Then what was written and the status agree with the outcome in the sense of `WritesOf`.
fault_written : (fault : RunFault) (expected : Result Report Stop) (out out' err err' : Option (List ℕ)) → ended_status {T = Unit} (Err fault) expected ≡ 1 → AppendsFront out out' (out_text expected) → AppendsFront err err' (err_text expected)
    → WritesOf {T = Unit} (Err fault) (fault_stop fault).status expected out out' err err'
fault_written OutFailed expected out out' err err' status o e = record { by_status = refl; out_bytes = o; err_bytes = e }
fault_written ErrFailed expected out out' err err' status o e = record { by_status = status; out_bytes = o; err_bytes = e }
fault_written NoMemory expected out out' err err' status o e = record { by_status = refl; out_bytes = o; err_bytes = e }

same_status : (r : Result Unit RunFault) (shown : Stop) → ended_status r (Err shown) ≡ status_by r shown.status
same_status r shown = grind arith

-- If the outlet of a stop is an output, the report of the stop is `text` on this output, and nothing on the other one.
-- If the stop is reported later, nothing is required.
TextsFit : Outlet → Stop → List ℕ → Type 0
TextsFit OnOut shown text = (shown.out ≡ text) × (shown.err ≡ [])
TextsFit OnErr shown text = (shown.out ≡ []) × (shown.err ≡ text)
TextsFit (Later fault) shown text = Unit {0}

command_fits : (fault : CommandFault) → TextsFit (command_outlet fault) (command_stop fault) (command_text fault)
unfolding TextsFit
command_fits (usage text) = (refl, refl)
command_fits (help text) = (refl, refl)
command_fits (bad_value message) = (refl, refl)
command_fits no_memory = tt

texts_fit : (stop : declared_stop.Stop) → TextsFit (outlet_of stop) (shown_stop stop) (stop_text stop)
unfolding TextsFit
texts_fit (Command fault) = command_fits (shown_fault fault)
texts_fit (Zones name ReadFailed) = (refl, refl)
texts_fit (Zones name (Zone zone.BadName)) = (refl, refl)
texts_fit (Zones name (Zone zone.BadRule)) = (refl, refl)
texts_fit (Zones name (Zone zone.BadFile)) = (refl, refl)
texts_fit (Zones name (Zone zone.TooLarge)) = (refl, refl)
texts_fit (Zones name (Zone zone.NoMemory)) = tt
texts_fit (Zones name (Zone zone.NameTaken)) = (refl, refl)
texts_fit LocalRule = (refl, refl)
texts_fit LocalName = (refl, refl)
texts_fit Clock = (refl, refl)
texts_fit (Open path) = (refl, refl)
texts_fit (Run fault) = tt

module _ (stop : declared_stop.Stop) (r : Result Unit RunFault) (expected : Result Report Stop) (out out1 out' err err1 err' : Option (List ℕ)) (s : StopsAs stop expected) (at_out : out1 ≡ out) (at_err : err1 ≡ err) where
  -- if the work stopped before the run, and the stop was reported as `ReportsOn` says, then what was written agrees
  -- with `expected`, as `WritesOf` says
  early_written : (outlet : Outlet) → outlet_of stop ≡ outlet → TextsFit outlet (shown_stop stop) (stop_text stop) → ReportsOn outlet (stop_text stop) r out1 out' err1 err' → WritesOf r (shown_stop stop).status expected out out' err err'
  unfolding TextsFit
  early_written OnOut is fits (w, same) =
      let stopped : expected ≡ Err (shown_stop stop) = s.same (rw is refl) in
      rw stopped (record {
        by_status = same_status r (shown_stop stop);
        out_bytes = rw fits.0 (rw at_out at w);
        err_bytes = rw (fits.1, same ∙ at_err) (writes_nothing err r);
      })
  early_written OnErr is fits (w, same) =
      let stopped : expected ≡ Err (shown_stop stop) = s.same (rw is refl) in
      rw stopped (record {
        by_status = same_status r (shown_stop stop);
        out_bytes = rw (fits.0, same ∙ at_out) (writes_nothing out r);
        err_bytes = rw fits.1 (rw at_err at w);
      })
  early_written (Later OutFailed) is fits t = let before = rw is at s.before_out in absurd (false≢true (sym before))
  early_written (Later ErrFailed) is fits t = let before = rw is at s.before_err in absurd (false≢true (sym before))
  early_written (Later NoMemory) is fits (none, same_out, same_err) =
      rw none (record {
        by_status = refl;
        out_bytes = rw (same_out ∙ at_out) (nothing_front out (out_text expected));
        err_bytes = rw (same_err ∙ at_err) (nothing_front err (err_text expected));
      })

pub reports_stop : (stop : declared_stop.Stop) (r : Result Unit RunFault) (out1 out' err1 err' : Option (List ℕ)) → ReportsStop stop r out1 out' err1 err' → (expected : Result Report Stop) (out err : Option (List ℕ)) → StopEnds stop expected out out1 err err1
    → WritesOf r (shown_stop stop).status expected out out' err err'
reports_stop (Run fault) r out1 out' err1 err' t expected out err s =
    rw (t.0, t.1, t.2) (fault_written fault expected out out1 err err1 s.0 s.1 s.2)
reports_stop (Command fault) r out1 out' err1 err' t expected out err s = early_written (Command fault) r expected out out1 out' err err1 err' s.0 s.1 s.2 (outlet_of (Command fault)) refl (texts_fit (Command fault)) t
reports_stop (Zones name fault) r out1 out' err1 err' t expected out err s = early_written (Zones name fault) r expected out out1 out' err err1 err' s.0 s.1 s.2 (outlet_of (Zones name fault)) refl (texts_fit (Zones name fault)) t
reports_stop LocalRule r out1 out' err1 err' t expected out err s = early_written LocalRule r expected out out1 out' err err1 err' s.0 s.1 s.2 OnErr refl (texts_fit LocalRule) t
reports_stop LocalName r out1 out' err1 err' t expected out err s = early_written LocalName r expected out out1 out' err err1 err' s.0 s.1 s.2 OnErr refl (texts_fit LocalName) t
reports_stop Clock r out1 out' err1 err' t expected out err s = early_written Clock r expected out out1 out' err err1 err' s.0 s.1 s.2 OnErr refl (texts_fit Clock) t
reports_stop (Open path) r out1 out' err1 err' t expected out err s = early_written (Open path) r expected out out1 out' err err1 err' s.0 s.1 s.2 OnErr refl (texts_fit (Open path)) t

-- ## Which part of a text has reached standard output, and which part is still in its buffer

-- if a prefix of the text was written, then the bytes that reached the output and those still in the buffer make up a
-- prefix of the text
reaches_front : (before written reached : Option (List ℕ)) (text : List ℕ) (b : Bool) → AppendsFront before written text → Flushes written reached b → (held : List ℕ) × AppendsFront before (append_known reached held) text
reaches_front before written reached text true w s =
    ([], record { front = w.front; rest = w.rest; whole = w.whole; written = rw (append_known-nil reached) (Appends-kept before written reached w.front w.written s) })
reaches_front before written reached text false w s =
    (s.0, record { front = w.front; rest = w.rest; whole = w.whole; written = Appends-kept before written (append_known reached s.0) w.front w.written s.1 })

pub reaches_fault : (fault : RunFault) (before written reached : Option (List ℕ)) (text : List ℕ) (b : Bool) → Writes {T = Unit} before written (Err fault) text → Flushes written reached b → Reaches {T = Unit} before reached (Err fault) text
reaches_fault fault before written reached text b w s = reaches_front before written reached text b w s

pub reaches_flushed : (r : Result Unit RunFault) (before written reached : Option (List ℕ)) (text : List ℕ) → Writes before written r text → Flushes written reached true → Reaches before reached r text
reaches_flushed (Ok done) before written reached text w s = Appends-kept before written reached text w s
reaches_flushed (Err fault) before written reached text w s = reaches_front before written reached text true w s

pub reaches_unflushed : (before written reached : Option (List ℕ)) (text : List ℕ) → Writes {T = Unit} {E = RunFault} before written (Ok tt) text → Flushes written reached false → Reaches {T = Unit} before reached (Err OutFailed) text
reaches_unflushed before written reached text w s = reaches_front before written reached text false (whole_front before written text w) s

-- ## From the arguments to the exit status

-- if `Writes` holds on standard error for the result before the flush, then it also holds for the result after the
-- flush
err_before : (r flushed : Result Unit RunFault) (a b : Option (List ℕ)) (text : List ℕ) → IsFlushed r flushed → Writes a b r text → Writes a b flushed text
err_before r flushed a b text is w = grind (arith, whole_front a b text)

flushed_status : (r flushed : Result Unit RunFault) (status : ℕ) (expected : Result Report Stop) → IsFlushed r flushed → ended_status r expected ≡ status_by r status → status_by flushed status ≡ ended_status flushed expected
flushed_status r flushed status expected is same = grind arith

pub works : (gives : Told → Bool) (is_unread : List ℕ → Bool) (arguments : List (List ℕ)) (answered : Result Status declared_stop.Stop) (out out1 out2 reached err err1 err2 err3 : Option (List ℕ)) (failed : Bool) (written flushed : Result Unit RunFault) (status last : ℕ)
    → AnsweredArguments gives is_unread arguments answered out out1 err err1
    → ((expected : Result Report Stop) (a b : Option (List ℕ)) → EndsAs answered expected a out1 b err1 → WritesOf written status expected a out2 b err2)
    → ((before : Option (List ℕ)) (text : List ℕ) → Writes before out2 written text → Reaches before reached flushed text)
    → IsFlushed written flushed → ReportsFault err2 err3 failed flushed → last ≡ status_by flushed status
    → Works gives is_unread arguments out reached err err3 failed (record { status = last; written = flushed })
works gives is_unread arguments answered out out1 out2 reached err err1 err2 err3 failed written flushed status last a tells reaches is line same =
    let w = tells (outcome a.world) out err a.ends in
    record {
      world = a.world;
      fits = a.fits;
      unread = a.unread;
      status = same ∙ flushed_status written flushed status (outcome a.world) is w.by_status;
      out_bytes = reaches out (out_text (outcome a.world)) w.out_bytes;
      err_bytes = record { before = err2; text_bytes = err_before written flushed err err2 (err_text (outcome a.world)) is w.err_bytes; line = line };
    }
