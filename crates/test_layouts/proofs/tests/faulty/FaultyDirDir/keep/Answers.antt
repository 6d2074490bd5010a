use Rattle.test_layouts.proofs.tests.faulty.FaultyDirDir.keep.Goals as goal

pub returns-then-fails-clause-left : goal.returns-then-fails-clause-left
returns-then-fails-clause-left c = λ honest. record { other = c.leave.ensures.left.other; over = λ there bytes is. c.leave.ensures.left.over there bytes tt }
