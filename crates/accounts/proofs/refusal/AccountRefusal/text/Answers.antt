use Rattle.std.proofs.Common.{sym, ap}
use Rattle.accounts.specs.Refusals.{text_of}
use Rattle.accounts.proofs.refusal.AccountRefusal.text.Goals as goal

pub returns-in-WindowRange : goal.returns-in-WindowRange
returns-in-WindowRange c = ap text_of (sym c.in-WindowRange.is)

pub returns-in-SlotsRange : goal.returns-in-SlotsRange
returns-in-SlotsRange c = ap text_of (sym c.in-SlotsRange.is)

pub returns-in-LargestRange : goal.returns-in-LargestRange
returns-in-LargestRange c = ap text_of (sym c.in-LargestRange.is)

pub returns-in-SizeRange : goal.returns-in-SizeRange
returns-in-SizeRange c = ap text_of (sym c.in-SizeRange.is)

pub returns-in-WindowSpent : goal.returns-in-WindowSpent
returns-in-WindowSpent c = ap text_of (sym c.in-WindowSpent.is)

pub returns-in-RunOver : goal.returns-in-RunOver
returns-in-RunOver c = ap text_of (sym c.in-RunOver.is)
