mod RunsComputed
