use Rattle.clean_link.proofs.marks.MarksTrue.{marked_where_heard, marks_rate, marks_true, unmarked}
use Rattle.clean_link.proofs.laws.marks_are_true.Goals as goal

pub returns : goal.returns
returns c = record { true_mark = marks_true; set = marked_where_heard; rate = marks_rate; none = unmarked }
