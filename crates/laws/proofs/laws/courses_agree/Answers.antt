use Rattle.laws.proofs.Courses.{courses_agree}
use Rattle.laws.proofs.laws.courses_agree.Goals as goal

pub returns : goal.returns
returns c = courses_agree
