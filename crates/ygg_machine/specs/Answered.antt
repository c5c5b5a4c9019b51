-- Answers as values.
use Rattle.ygg_value.specs.Shapes.{IsValue}
use Rattle.ygg_eval.specs.ygg_disk.declared.turn.Turn.{Turn}
use Rattle.ygg_eval.specs.ygg_disk.declared.turn.Turn.TheVariants.{Done, Answer, Down, Failed}

-- an answer, if there is one, keeps the limits of values
abbrev pub AnswersValue : Turn → Type 0
AnswersValue Done = Unit {0}
AnswersValue (Answer v) = IsValue v
AnswersValue Down = Unit {0}
AnswersValue Failed = Unit {0}
