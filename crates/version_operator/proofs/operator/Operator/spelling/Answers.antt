use Rattle.std.proofs.Common.{refl}
use Rattle.version_operator.proofs.operator.Operator.spelling.Goals as goal

pub returns-in-LessEqual : goal.returns-in-LessEqual
returns-in-LessEqual c = rw c.in-LessEqual.is refl

pub returns-in-Less : goal.returns-in-Less
returns-in-Less c = rw c.in-Less.is refl

pub returns-in-NotEqual : goal.returns-in-NotEqual
returns-in-NotEqual c = rw c.in-NotEqual.is refl

pub returns-in-Equal : goal.returns-in-Equal
returns-in-Equal c = rw c.in-Equal.is refl

pub returns-in-GreaterEqual : goal.returns-in-GreaterEqual
returns-in-GreaterEqual c = rw c.in-GreaterEqual.is refl

pub returns-in-Greater : goal.returns-in-Greater
returns-in-Greater c = rw c.in-Greater.is refl

pub returns-in-Compatible : goal.returns-in-Compatible
returns-in-Compatible c = rw c.in-Compatible.is refl

pub returns-in-Exact : goal.returns-in-Exact
returns-in-Exact c = rw c.in-Exact.is refl
