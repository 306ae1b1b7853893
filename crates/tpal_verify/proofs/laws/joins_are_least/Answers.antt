use Rattle.tpal_verify.proofs.ShapeOrder.{shape_of, is_shape_below, join_left, join_right, join_least}
use Rattle.tpal_verify.specs.Shapes.{joined}
use Rattle.tpal_verify.proofs.laws.joins_are_least.Goals as goal

pub returns-clause-left : goal.returns-clause-left
returns-clause-left c = λ s t. is_shape_below s (joined s t) (join_left s t)

pub returns-clause-right : goal.returns-clause-right
returns-clause-right c = λ s t. is_shape_below t (joined s t) (join_right s t)

pub returns-clause-least : goal.returns-clause-least
returns-clause-least c =
    λ s t u p q. is_shape_below (joined s t) u (join_least s t u (shape_of s u p) (shape_of t u q))
