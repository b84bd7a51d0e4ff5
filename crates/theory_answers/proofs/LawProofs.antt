-- The laws of this crate, each under the name of its call: crates above cite them from here.
pub use Rattle.theory_answers.proofs.Asks.{each_question_is_open as questions_are_open}
pub use Rattle.theory_answers.proofs.Answered.{each_solicitation_is_answered as solicitations_are_answered}
pub use Rattle.theory_answers.proofs.Open.{each_answer_is_taken as answers_are_taken}
pub use Rattle.theory_answers.proofs.Tells.{each_answer_tells as answers_tell}
pub use Rattle.theory_answers.proofs.Heard.{each_heard_answer_tells as heard_answers_tell}
pub use Rattle.theory_answers.proofs.AtOnce.{each_answer_at_once_tells as answers_at_once_tell}
pub use Rattle.theory_answers.proofs.Questions.{each_question_tells as questions_tell}
pub use Rattle.theory_answers.proofs.Throughout.{histories as histories_tell_at_once}
