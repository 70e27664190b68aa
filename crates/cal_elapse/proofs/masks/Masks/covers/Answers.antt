use Rattle.std.proofs.lemmas.Bool.{and_parts}
use Rattle.cal_elapse.proofs.AmongLemmas.{among}
use Rattle.cal_elapse.proofs.masks.Masks.covers.Goals as goal
use Rattle.std.proofs.Common.{Bool, arith, true, ◌≡◌}
use Rattle.std.proofs.Math.Bool.{beq}

beq_same : (a b : Bool) → beq a b ≡ true → a ≡ b
beq_same a b h = grind arith

pub returns : goal.returns
returns c = λ all.
    let turned = and_parts _ _ all in
    let seconds = and_parts _ _ turned.0 in
    let minutes = and_parts _ _ seconds.0 in
    let hours = and_parts _ _ minutes.0 in
    let days = and_parts _ _ hours.0 in
    let months = and_parts _ _ days.0 in
    let years = and_parts _ _ months.0 in
    among c.args.self.now c.args.others.now (search (c.has_all.ensures years.0)) (search (c.have_all.ensures years.1)) (search (c.has_all-2.ensures months.1))
    (search (c.has_all-3.ensures days.1)) (search (c.has_all-4.ensures hours.1)) (search (c.has_all-5.ensures minutes.1)) (search (c.has_all-6.ensures seconds.1))
    (beq_same _ _ turned.1)
