use Rattle.std.proofs.Common.{refl}
use Rattle.program_refusal.proofs.name.refusal_name.Goals as goal

pub returns-in-LongText : goal.returns-in-LongText
returns-in-LongText c = rw c.in-LongText.is refl

pub returns-in-BadUtf8 : goal.returns-in-BadUtf8
returns-in-BadUtf8 c = rw c.in-BadUtf8.is refl

pub returns-in-BadChar : goal.returns-in-BadChar
returns-in-BadChar c = rw c.in-BadChar.is refl

pub returns-in-BigNumber : goal.returns-in-BigNumber
returns-in-BigNumber c = rw c.in-BigNumber.is refl

pub returns-in-Deep : goal.returns-in-Deep
returns-in-Deep c = rw c.in-Deep.is refl

pub returns-in-Expected : goal.returns-in-Expected
returns-in-Expected c = rw c.in-Expected.is refl

pub returns-in-Twice : goal.returns-in-Twice
returns-in-Twice c = rw c.in-Twice.is refl

pub returns-in-Many : goal.returns-in-Many
returns-in-Many c = rw c.in-Many.is refl

pub returns-in-NoMain : goal.returns-in-NoMain
returns-in-NoMain c = rw c.in-NoMain.is refl

pub returns-in-Unbound : goal.returns-in-Unbound
returns-in-Unbound c = rw c.in-Unbound.is refl

pub returns-in-NoFunction : goal.returns-in-NoFunction
returns-in-NoFunction c = rw c.in-NoFunction.is refl

pub returns-in-NoType : goal.returns-in-NoType
returns-in-NoType c = rw c.in-NoType.is refl

pub returns-in-TooTall : goal.returns-in-TooTall
returns-in-TooTall c = rw c.in-TooTall.is refl

pub returns-in-TooWide : goal.returns-in-TooWide
returns-in-TooWide c = rw c.in-TooWide.is refl

pub returns-in-Mismatch : goal.returns-in-Mismatch
returns-in-Mismatch c = rw c.in-Mismatch.is refl

pub returns-in-OutOfOrder : goal.returns-in-OutOfOrder
returns-in-OutOfOrder c = rw c.in-OutOfOrder.is refl

pub returns-in-Jumpy : goal.returns-in-Jumpy
returns-in-Jumpy c = rw c.in-Jumpy.is refl

pub returns-in-WaitNull : goal.returns-in-WaitNull
returns-in-WaitNull c = rw c.in-WaitNull.is refl

pub returns-in-Arity : goal.returns-in-Arity
returns-in-Arity c = rw c.in-Arity.is refl

pub returns-in-History : goal.returns-in-History
returns-in-History c = rw c.in-History.is refl

pub returns-in-NotStream : goal.returns-in-NotStream
returns-in-NotStream c = rw c.in-NotStream.is refl

pub returns-in-WideOutput : goal.returns-in-WideOutput
returns-in-WideOutput c = rw c.in-WideOutput.is refl
