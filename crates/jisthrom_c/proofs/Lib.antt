mod RunsGo
