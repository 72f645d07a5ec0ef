use Rattle.std.proofs.Common.{◌<◌, ◌+◌, ◌^◌, length, get_or, ap, sym, subst, ◌∙◌, arith}
use Rattle.device_model.specs.AccessSteps.{BeginsLow, rest_of}
use Rattle.device_model.proofs.Walk.{low_byte, next_run, no_segment, past_segment, some_segment}
use Rattle.device_model.proofs.cursor.Cursor.next.Goals as goal

pub loop-self-preserved : goal.loop-self-preserved
loop-self-preserved c =
    let self = c.loop-self.self in
    let before = c.loop-self.invariant in
    let some : 0 < length (rest_of self) = omega (arith, ap length before.same, c.requires.left) in
    let inside = some_segment self.segments.now self.index self.skip some in
    record {
      same = past_segment self.segments.now self.index self.skip inside c.loop-self-test.true ∙ before.same;
      segments = before.segments;
    }

pub overflow_add-pa : goal.overflow_add-pa
overflow_add-pa c =
    let self = c.loop-self.self in
    let before = c.loop-self.invariant in
    let some : 0 < length (rest_of self) = omega (arith, ap length before.same, c.requires.left) in
    let inside = some_segment self.segments.now self.index self.skip some in
    let low : (get_or self.segments.now self.index no_segment).addr.0 + self.skip < 2 ^ 42 =
    low_byte self.segments.now self.index self.skip inside c.loop-self-test.false
    (subst BeginsLow (sym before.same) c.requires.low) in
    omega (arith, low)

pub returns-clause-run : goal.returns-clause-run
returns-clause-run c =
    let self = c.loop-self.self in
    let before = c.loop-self.invariant in
    let some : 0 < length (rest_of self) = omega (arith, ap length before.same, c.requires.left) in
    let inside = some_segment self.segments.now self.index self.skip some in
    sym before.same ∙ next_run self.segments.now self.index self.skip c.min-len.result inside
    (omega (arith, c.min.ensures, c.min-len.ensures, c.loop-self-test.false))

pub returns-clause-extent : goal.returns-clause-extent
returns-clause-extent c =
    let self = c.loop-self.self in
    let before = c.loop-self.invariant in
    let some : 0 < length (rest_of self) = omega (arith, ap length before.same, c.requires.left) in
    let inside = some_segment self.segments.now self.index self.skip some in
    record {
      some = omega (arith, c.min.ensures, c.min-len.ensures, c.loop-self-test.false, c.requires.some);
      in_frame = omega (arith, c.min.ensures, c.min-len.ensures);
      numbered =
          low_byte self.segments.now self.index self.skip inside c.loop-self-test.false
          (subst BeginsLow (sym before.same) c.requires.low);
    }
